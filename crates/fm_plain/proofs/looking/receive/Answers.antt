use Rattle.std.proofs.Common.{◌∷◌}
use Rattle.fm_mean.specs.Actions.{receive_places, receives}
use Rattle.fm_plain.specs.Standing.{frame_in, point_in, program_in, scope_in}
use Rattle.fm_plain.proofs.looking.receive.Goals as goal

pub returns : goal.returns
returns c = λ w below.
    c.seen.ensures (program_in c.args.here.now) w
    (receives (point_in c.args.here.now) (frame_in c.args.here.now c.args.top.now) (receive_places (scope_in c.args.here.now c.args.top.now) c.args.port.now c.args.extras.now c.args.items.now))
    (frame_in c.args.here.now c.args.top.now) below (frame_in c.args.here.now c.args.top.now ∷ below) (c.in_ok-step.ensures w below)
