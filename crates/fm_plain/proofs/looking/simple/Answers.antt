use Rattle.fm_plain.specs.Standing.{frame_in, point_in}
use Rattle.fm_plain.proofs.Free.{makes_free, moves_free, probes_free, sends_free}
use Rattle.fm_plain.proofs.looking.simple.Goals as goal

pub returns-in-Channel : goal.returns-in-Channel
returns-in-Channel c = λ w below. rw c.in-Channel.is (makes_free (point_in c.args.here.now) _)

pub returns-in-MovePort : goal.returns-in-MovePort
returns-in-MovePort c = λ w below. rw c.in-MovePort.is (moves_free w (point_in c.args.here.now) (frame_in c.args.here.now c.args.top.now) below _)

pub returns-in-Probe : goal.returns-in-Probe
returns-in-Probe c = λ w below. rw c.in-Probe.is (probes_free (point_in c.args.here.now) (frame_in c.args.here.now c.args.top.now) _)

pub returns-in-Send : goal.returns-in-Send
returns-in-Send c = λ w below. rw c.in-Send.is (sends_free (point_in c.args.here.now) _ (frame_in c.args.here.now c.args.top.now) _ _)
