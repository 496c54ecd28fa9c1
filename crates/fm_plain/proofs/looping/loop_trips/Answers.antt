use Rattle.std.proofs.Common.{ℕ, ℤ, Option, sym, subst, ap, ◌∙◌}
use Rattle.std.specs.Prelude.{option_map}
use Rattle.fm_mean.specs.Actions.{loop_trips}
use Rattle.fm_plain_frame.specs.Frames.{trips_of}
use Rattle.fm_plain.specs.Standing.{ActsOn, frame_in, point_in}
use Rattle.fm_plain.proofs.looping.loop_trips.Goals as goal

pub returns-in-None-clause-acts : goal.returns-in-None-clause-acts
returns-in-None-clause-acts c =
    subst (λ (o : Option (ℕ × ℤ)). ActsOn c.args.here.now (λ w below. loop_trips w (point_in c.args.here.now) (frame_in c.args.here.now c.args.top.now) below c.args.end.opener c.args.end.body c.args.place o) c.args.top.now c.goes_to.result c.goes_to.new.top)
    (ap (option_map trips_of) (sym c.in-None.is) ∙ c.trips_at.ensures) c.goes_to.ensures
