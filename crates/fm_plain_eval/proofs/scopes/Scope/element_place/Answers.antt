use Rattle.fm_mean.proofs.Sizes.{variable_addressed}
use Rattle.fm_plain_frame.specs.Units.{unit_of}
use Rattle.fm_plain_eval.proofs.scopes.Scope.element_place.Goals as goal

pub returns : goal.returns
returns c =
    let exact = rw c.as_slice.ensures at c.element_place.ensures.exact in
    exact (variable_addressed c.args.self.now.unit.program.now c.number-number.result (unit_of c.args.self.now.unit) c.args.place c.args.variable.now c.number-number.ensures.unit c.requires)
