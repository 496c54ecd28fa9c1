use Rattle.std.proofs.Common.{sym, subst}
use Rattle.fm_mean.specs.Actions.{ends_loop}
use Rattle.fm_plain_frame.specs.Units.{unit_of}
use Rattle.fm_plain.specs.declared.looping.Loop.{Loop}
use Rattle.fm_plain.specs.Standing.{ActsOn, frame_in, point_in, loop_read}
use Rattle.fm_plain.proofs.looping.ends_loop.Goals as goal

pub returns-in-While-clause-acts : goal.returns-in-While-clause-acts
returns-in-While-clause-acts c =
    subst (λ (l : Loop). ActsOn c.args.here.now (λ w below. ends_loop w (unit_of c.args.here.now.unit) (point_in c.args.here.now) (frame_in c.args.here.now c.args.top.now) below c.args.end.opener c.args.end.body (loop_read l)) c.args.top.now c.goes_to.result c.goes_to.new.top)
    (sym c.in-While.is) c.goes_to.ensures
