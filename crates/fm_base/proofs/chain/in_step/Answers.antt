use Rattle.std.proofs.Common.{◌≡◌}
use Rattle.fm_base.specs.Chains.{pairs_of}
use Rattle.fm_base.proofs.ChainLaws.{in_step_first, in_step_step, one_back}
use Rattle.fm_base.proofs.chain.in_step.Goals as goal

pub links-init : goal.links-init
links-init c = in_step_first (pairs_of c.args.left.now) (pairs_of c.args.right.now)

pub returns-in-None-clause-passed : goal.returns-in-None-clause-passed
returns-in-None-clause-passed c = c.links.invariant

pub returns-in-None-right-clause-passed : goal.returns-in-None-right-clause-passed
returns-in-None-right-clause-passed c = c.links.invariant

pub links-preserved : goal.links-preserved
links-preserved c =
    let one = one_back c.links.left.now c.in-Some.one c.deref.result.now c.deref-in-Some-right-2.result.now c.in-Some.is c.deref.ensures c.deref-in-Some-right-2.ensures in
    let other = one_back c.links.right.now c.in-Some-right.other c.deref-in-Some-right.result.now c.deref-in-Some-right-3.result.now c.in-Some-right.is c.deref-in-Some-right.ensures c.deref-in-Some-right-3.ensures in
    in_step_step _ _ one other c.cmp.ensures c.then-order.ensures c.links.invariant
