use Rattle.std.proofs.Common.{◌∙◌, arith}
use Rattle.fm_run.proofs.history.History.forget_behind.Goals as goal

pub returns-clause-one : goal.returns-clause-one
returns-clause-one c = λ front t is counted. c.forget_last.ensures.one front t (c.self.view_is ∙ is)

pub invariant_of-self : goal.invariant_of-self
invariant_of-self c = omega (arith, c.self.invariant, c.forget_last.ensures.count)
