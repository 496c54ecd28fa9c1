use Rattle.std.proofs.Common.{◌<◌, ◌≤◌, length, arith, sym, ◌∙◌, ap}
use Rattle.std.proofs.lemmas.Bool.{eqb-true, eqb-false}
use Rattle.fm_token.specs.Steps.{behind_items}
use Rattle.fm_token.proofs.Cuts.{behind_none, cut_none, cut_push, cut_end}
use Rattle.fm_token.proofs.statements.push_cut.Goals as goal

pub returns-in_default : goal.returns-in_default
returns-in_default c = λ e.
    let some : 0 < length c.tokens.rest.now = omega (arith, eqb-false (length c.tokens.rest.now) 0 (sym c.tokens-test.ensures)) in
    behind_none c.args.out.now.items _ (sym c.tokens.invariant ∙ ap (behind_items c.tokens.out.items) (cut_none c.tokens.rest.now (sym c.in_ok-n.ensures.longest ∙ c.in_default.is) some))

pub tokens-preserved : goal.tokens-preserved
tokens-preserved c =
    let w : (0 < c.in-Some.n) × (c.in-Some.n ≤ length c.tokens.rest.now) = rw c.in-Some.is at c.in_ok-n.ensures.within in
    cut_push c.tokens.out.items _ c.tokens.rest.now _ c.in-Some.n c.in-Some.token c.in_ok-push.ensures.items c.split_at.ensures.back (sym c.in_ok-n.ensures.longest ∙ c.in-Some.is) w.0 w.1
    ∙ c.tokens.invariant

pub returns : goal.returns
returns c = cut_end _ c.tokens.rest.now _ (eqb-true (length c.tokens.rest.now) 0 (sym c.tokens-test.ensures)) c.tokens.invariant
