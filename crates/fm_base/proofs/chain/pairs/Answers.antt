use Rattle.std.proofs.Common.{◌≡◌, ◌++◌, ap, sym, ◌∙◌}
use mathlib.Core.List.{reverse}
use Rattle.std.proofs.lemmas.List.{append-nil}
use Rattle.fm_base.specs.Chains.{pairs_of}
use Rattle.fm_base.proofs.ChainLaws.{gather_step, one_back}
use Rattle.fm_base.proofs.chain.pairs.Goals as goal

pub links-init : goal.links-init
links-init c = ap (λ z. pairs_of c.args.chain.now ++ reverse z) c.new-pairs.ensures.items ∙ append-nil (pairs_of c.args.chain.now)

pub links-preserved : goal.links-preserved
links-preserved c =
    let one = one_back c.links.before.now c.in-Some.last c.deref.result.now c.deref-in-Some.result.now c.in-Some.is c.deref.ensures c.deref-in-Some.ensures in
    gather_step _ _ _ _ _ one c.in_ok-push.ensures.items c.links.invariant

pub returns : goal.returns
returns c = c.reverse.ensures.items ∙ ap (λ z. pairs_of z ++ reverse c.links.pairs.items) (sym c.in_default.is) ∙ c.links.invariant
