use Rattle.std.proofs.Common.{rules}
use Rattle.std.proofs.lemmas.Result.{err_from_is_err_and}
use Rattle.std.specs.Option.{option_copied}
use Rattle.fm_plain_frame.specs.Units.{unit_of}
use Rattle.fm_plain.specs.Standing.{scope_in}
use Rattle.fm_plain.proofs.FailureLaws.{seat_fails}
use Rattle.fm_plain.proofs.starting.arguments_and_seat.Goals as goal

pub returns-in_err-seat : goal.returns-in_err-seat
returns-in_err-seat c =
    let fails = seat_fails (scope_in c.args.here.now c.args.top.now) c.args.here.now.machine c.args.here.now.node (unit_of c.args.callee.now).names.extents c.args.arguments.now (option_copied c.args.place)
    c.in_ok-actuals.actuals c.in_ok-actuals.next c.in_err-seat.field-0.0 (search rules) (search rules) (search rules) in
    let p = err_from_is_err_and c.from_residual-in_err-seat.result c.from_residual-in_err-seat.ensures.1 in
    rw (p.1, p.2) fails
