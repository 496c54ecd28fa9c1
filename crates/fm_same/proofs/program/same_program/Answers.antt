use Rattle.fm_same.proofs.SamePrograms.{exact_program}
use Rattle.fm_same.proofs.program.same_program.Goals as goal

pub returns : goal.returns
returns c =
    exact_program c.same_units.result c.args.first.now c.args.second.now c.units-ones.result.now c.units-others.result.now
    c.units-ones.ensures c.units-others.ensures c.same_units.ensures
