use Rattle.std.proofs.Common.{◌≡◌, ℕ, [], Some, None, subst}
use Rattle.std.specs.Prelude.{IfOk, OnErr}
use Rattle.fm_base.specs.declared.path.ChanName.{ChanName}
use Rattle.fm_net.specs.Machine.{Go, Nothing, Onward, Reply, reply_with}
use Rattle.fm_rules.specs.declared.program.Program.{Program}
use Rattle.fm_mean.specs.Process.{Proc}
use Rattle.fm_mean.specs.Steps.{ask}
use Rattle.fm_plain_frame.specs.Frames.{proc_of}
use Rattle.fm_nodes_procs.specs.Asks.{GoesSo}
use Rattle.fm_nodes_trees.specs.declared.drops.Drops.{Drops}
use Rattle.fm_nodes_trees.specs.Drops.{drops_in}
use Rattle.fm_nodes_trees.proofs.trees.TreesRunner.step_alone.Goals as goal

pub returns-clause-steps : goal.returns-clause-steps
returns-clause-steps c =
    let x = c.args.process.now in
    let y = c.step_own.new.process in
    subst (λ (p : Program). IfOk c.step_own.result (λ o. (d : Drops) (cost : ℕ) → o ≡ Some (d, cost) → (f : ChanName → Reply Proc → Onward Proc) × (ask p (proc_of p x) ≡ Go Nothing f) × ((n : ChanName) → GoesSo (proc_of p y) [] (drops_in p d) cost (f n (reply_with []))))) c.deref.ensures c.step_own.ensures.steps

pub returns-clause-none : goal.returns-clause-none
returns-clause-none c = subst (λ (p : Program). IfOk c.step_own.result (λ o. o ≡ None → proc_of p c.step_own.new.process ≡ proc_of p c.args.process.now)) c.deref.ensures c.step_own.ensures.none

pub returns-clause-err : goal.returns-clause-err
returns-clause-err c = subst (λ (p : Program). OnErr c.step_own.result (proc_of p c.step_own.new.process ≡ proc_of p c.args.process.now)) c.deref.ensures c.step_own.ensures.err
