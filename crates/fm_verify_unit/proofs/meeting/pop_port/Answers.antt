use Rattle.std.proofs.Common.{sym}
use Rattle.fm_verify_unit.proofs.Places.{at_no_port}
use Rattle.fm_verify_unit.proofs.meeting.pop_port.Goals as goal

pub returns-in_default : goal.returns-in_default
returns-in_default c = λ f. sym (at_no_port c.args.cells.now c.args.held.now f c.in_default.ensures)
