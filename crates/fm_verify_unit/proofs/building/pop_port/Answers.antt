use Rattle.fm_verify_unit.proofs.Places.{over_no_port}
use Rattle.fm_verify_unit.proofs.building.pop_port.Goals as goal

pub returns-in_default : goal.returns-in_default
returns-in_default c = over_no_port c.args.cells.now c.args.held.now c.in_default.ensures
