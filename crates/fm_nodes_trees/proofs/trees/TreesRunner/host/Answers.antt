use Rattle.std.proofs.Common.{◌∙◌}
use Rattle.std.specs.Arc.{arc_value}
use Rattle.fm_plain_frame.specs.Frames.{proc_of}
use Rattle.fm_nodes_trees.proofs.HostLaws.{elsewhere, on_node}
use Rattle.fm_nodes_trees.proofs.trees.TreesRunner.host.Goals as goal

pub returns-then-process-self : goal.returns-then-process-self
returns-then-process-self c =
    let t = c.args.self.now in
    let p = arc_value t.program in
    c.worker_of.ensures.worker ∙ on_node p t.hosts t.plan (proc_of p c.args.process.now) t.nodes t.nodes_are c.if-process-self.true

pub returns-else-process-self : goal.returns-else-process-self
returns-else-process-self c =
    let t = c.args.self.now in
    let p = arc_value t.program in
    elsewhere p t.hosts t.plan (proc_of p c.args.process.now) t.nodes t.nodes_are c.if-process-self.false
