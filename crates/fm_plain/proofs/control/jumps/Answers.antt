use Rattle.std.proofs.Common.{ℕ, Option, sym, subst}
use Rattle.fm_mean.specs.Actions.{jumps}
use Rattle.fm_plain.specs.Standing.{ActsOn, frame_in}
use Rattle.fm_plain.proofs.control.jumps.Goals as goal

pub returns-in-Some : goal.returns-in-Some
returns-in-Some c =
    subst (λ (o : Option ℕ). ActsOn c.args.here.now (λ w below. jumps w below (frame_in c.args.here.now c.args.top.now) o) c.args.top.now c.goes_to.result c.goes_to.new.top) (sym c.in-Some.is) c.goes_to.ensures
