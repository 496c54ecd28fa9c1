use Rattle.std.specs.Arc.{arc_value}
use Rattle.fm_nodes_trees.proofs.trees.TreesRunner.empty.Goals as goal

pub returns : goal.returns
returns c = c.leave.ensures.child (arc_value c.args.self.now.program)
