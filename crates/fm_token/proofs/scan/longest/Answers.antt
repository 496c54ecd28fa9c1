use Rattle.std.proofs.Common.{Option, Some, None, ap, sym, ◌∙◌}
use Rattle.fm_base.specs.declared.token.Token.{Token}
use Rattle.fm_token.specs.Cutting.{sized}
use Rattle.fm_token.specs.Steps.{token_at}
use Rattle.fm_token.proofs.Longest.{tried_as}
use Rattle.fm_token.proofs.scan.longest.Goals as goal

pub returns-in_default-clause-longest : goal.returns-in_default-clause-longest
returns-in_default-clause-longest c = sym (tried_as c.args.text.now None (sym c.in_default.is ∙ c.candidate.ensures.at))

pub returns-in-Some-2-clause-longest : goal.returns-in-Some-2-clause-longest
returns-in-Some-2-clause-longest c = sym (
    tried_as c.args.text.now (Some c.in-Some.n) (sym c.in-Some.is ∙ c.candidate.ensures.at)
    ∙ ap (λ (o : Option Token). sized c.in-Some.n o) (ap token_at (sym c.split_at.ensures.front) ∙ sym c.in_ok-token.ensures ∙ c.in-Some-2.is)
    )

pub returns-in-None-clause-longest : goal.returns-in-None-clause-longest
returns-in-None-clause-longest c = sym (
    tried_as c.args.text.now (Some c.in-Some.n) (sym c.in-Some.is ∙ c.candidate.ensures.at)
    ∙ ap (λ (o : Option Token). sized c.in-Some.n o) (ap token_at (sym c.split_at.ensures.front) ∙ sym c.in_ok-token.ensures ∙ c.in-None.is)
    )
