use Rattle.std.proofs.Common.{◌≡◌, map, subst}
use Rattle.std.specs.Prelude.{IfOk, OnErr}
use Rattle.std.specs.Option.{option_copied}
use Rattle.fm_rules.specs.declared.program.Program.{Program}
use Rattle.fm_plain_frame.specs.Frames.{proc_of}
use Rattle.fm_nodes_trees.specs.Drops.{drops_in}
use Rattle.fm_nodes_trees.specs.Goes.{Goes}
use Rattle.fm_nodes_trees.proofs.trees.TreesRunner.go_on.Goals as goal

pub returns-clause-goes : goal.returns-clause-goes
returns-clause-goes c =
    subst (λ (p : Program). IfOk c.go_on.result (λ g. Goes p c.args.path.now (proc_of p c.args.process.now) (option_copied c.args.message) c.args.exceeds (proc_of p c.go_on.new.process) (map (proc_of p) g.starts.items) (drops_in p g.drops) g.cost)) c.deref.ensures c.go_on.ensures.goes

pub returns-clause-err : goal.returns-clause-err
returns-clause-err c = subst (λ (p : Program). OnErr c.go_on.result (proc_of p c.go_on.new.process ≡ proc_of p c.args.process.now)) c.deref.ensures c.go_on.ensures.err
