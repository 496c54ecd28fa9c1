use Rattle.std.proofs.Common.{◌≡◌, ap, subst, ◌∙◌}
use Rattle.std.specs.Arc.{arc_value}
use Rattle.fm_rules.specs.declared.program.Program.{Program}
use Rattle.fm_plain_frame.specs.Frames.{proc_of}
use Rattle.fm_plain_replies.specs.Joins.{frames_in}
use Rattle.fm_nodes_trees.proofs.trees.TreesRunner.left.Goals as goal

pub returns : goal.returns
returns c = c.leave.ensures.left (arc_value c.args.self.now.program) ∙ subst (λ (p : Program). frames_in (proc_of p c.in_ok-twin.twin) ≡ frames_in (proc_of p c.args.process.now)) c.deref.ensures (ap frames_in c.in_ok-twin.ensures)
