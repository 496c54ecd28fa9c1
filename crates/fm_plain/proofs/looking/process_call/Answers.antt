use Rattle.fm_plain.specs.Standing.{point_in}
use Rattle.fm_plain.proofs.Free.{process_calls_free}
use Rattle.fm_plain.proofs.looking.process_call.Goals as goal

pub returns : goal.returns
returns c = λ w s f below arguments place. c.where_there.ensures _ (rw c.is_unit.ensures (process_calls_free w s (point_in c.args.here.now) f below _ arguments place))
