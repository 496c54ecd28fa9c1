use Rattle.fm_base.specs.Chains.{pairs_of}
use Rattle.fm_base.specs.InStep.{IsInStep}
use Rattle.fm_base.proofs.chain.in_step.Given as goal

abbrev pub invariant-links : goal.invariant-links
invariant-links l = IsInStep (pairs_of l.fn.left) (pairs_of l.fn.right) (pairs_of l.left) (pairs_of l.right) l.order
