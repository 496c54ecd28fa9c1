use Rattle.std.proofs.Common.{Option, List, IfOk, ap, sym, subst, ◌∙◌}
use Rattle.std.specs.Option.{option_copied}
use Rattle.fm_tree.specs.Tree.{Tree}
use Rattle.fm_mean.specs.Actions.{action_by}
use Rattle.fm_mean.specs.Process.{Execution, Frame, Running}
use Rattle.fm_plain_frame.specs.Units.{unit_of}
use Rattle.fm_plain.specs.Looking.{IsSeen}
use Rattle.fm_plain.specs.Standing.{frame_in, point_in, program_in}
use Rattle.fm_plain.proofs.looking.entry.Goals as goal

pub returns-in-None : goal.returns-in-None
returns-in-None c =
    subst (λ (o : Option Tree). IfOk c.statement.result (λ r. (w : Execution) (below : List Frame) → IsSeen Running (action_by (program_in c.args.here.now) w (unit_of c.args.here.now.unit) (point_in c.args.here.now) (frame_in c.args.here.now c.args.top.now) below o) r))
    (ap option_copied (sym c.in-None.is) ∙ c.pending.ensures) c.statement.ensures

pub returns-in-Some : goal.returns-in-Some
returns-in-Some c = λ w below.
    subst (λ (o : Option Tree). IsSeen Running (action_by (program_in c.args.here.now) w (unit_of c.args.here.now.unit) (point_in c.args.here.now) (frame_in c.args.here.now c.args.top.now) below o) c.where_there.result)
    (ap option_copied (sym c.in-Some.is) ∙ c.pending.ensures) (c.where_there.ensures _ (c.is_call.ensures w below))
