use Rattle.std.proofs.Common.{◌≡◌, ℕ, List, map, subst}
use Rattle.std.specs.Prelude.{IfOk, OnErr}
use Rattle.fm_base.specs.declared.path.ChanName.{ChanName}
use Rattle.fm_net.specs.Machine.{Children, Go, Onward, Reply, reply_with}
use Rattle.fm_rules.specs.declared.program.Program.{Program}
use Rattle.fm_mean.specs.Process.{Proc}
use Rattle.fm_mean.specs.Steps.{ask}
use Rattle.fm_plain_frame.specs.Frames.{proc_of}
use Rattle.fm_plain_replies.specs.Joins.{frames_in, left_frames}
use Rattle.fm_nodes_procs.specs.Asks.{AllLeft, GoesSo}
use Rattle.fm_nodes_trees.specs.Drops.{drops_in}
use Rattle.fm_nodes_trees.proofs.trees.TreesRunner.join.Goals as goal

pub returns-clause-goes : goal.returns-clause-goes
returns-clause-goes c =
    let x = c.args.process.now in
    let y = c.join_children.new.process in
    subst (λ (p : Program). IfOk c.join_children.result (λ g. (b n : ℕ) (f : ChanName → Reply Proc → Onward Proc) (kids : List Proc) → ask p (proc_of p x) ≡ Go (Children b n) f → AllLeft (λ z l. left_frames p l ≡ frames_in z) kids c.args.children.items → (d : ChanName) → GoesSo (proc_of p y) (map (proc_of p) g.starts.items) (drops_in p g.drops) g.cost (f d (reply_with kids)))) c.deref.ensures c.join_children.ensures.goes

pub returns-clause-err : goal.returns-clause-err
returns-clause-err c = subst (λ (p : Program). OnErr c.join_children.result (proc_of p c.join_children.new.process ≡ proc_of p c.args.process.now)) c.deref.ensures c.join_children.ensures.err
