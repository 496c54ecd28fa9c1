use Rattle.std.proofs.Common.{sym, ◌∙◌, subst}
use Rattle.fm_base.specs.Verdict.{IsVerdict}
use Rattle.fm_base.proofs.Least.{least_verdict}
use Rattle.fm_cards.specs.Broken.{places_of, IsBroken}
use Rattle.fm_cards.proofs.reader.cards.Goals as goal

pub returns-in-None-clause-clean : goal.returns-in-None-clause-clean
returns-in-None-clause-clean c =
    subst (IsVerdict (IsBroken c.args.source.now)) (sym c.in_ok-reader.ensures.best ∙ c.in-None.is) (least_verdict (places_of c.args.source.now))

pub returns-in-Some-clause-refused : goal.returns-in-Some-clause-refused
returns-in-Some-clause-refused c =
    subst (IsVerdict (IsBroken c.args.source.now)) (sym c.in_ok-reader.ensures.best ∙ c.in-Some.is) (least_verdict (places_of c.args.source.now))
