use Rattle.fm_rules.specs.BrokenTypes.{broken_types}
use Rattle.fm_types.proofs.program.types.Goals as goal

pub returns : goal.returns
returns c = rw (c.least_place.ensures, c.as_slice.ensures, c.as_slice-2.ensures) (c.least_law.ensures (broken_types c.args.units.now.units c.args.names.now.units c.args.context.now))
