use Rattle.std.proofs.Common.{◌≡◌, subst}
use Rattle.std.specs.Prelude.{IfOk}
use Rattle.fm_rules.specs.declared.program.Program.{Program}
use Rattle.fm_mean.specs.Steps.{ask}
use Rattle.fm_plain_frame.specs.Frames.{proc_of}
use Rattle.fm_nodes_procs.specs.Asks.{StartsSo, need_asked, need_told}
use Rattle.fm_nodes_trees.proofs.trees.TreesRunner.asked.Goals as goal

pub returns-clause-need : goal.returns-clause-need
returns-clause-need c = subst (λ (p : Program). IfOk c.asked.result (λ q. need_told q.asked ≡ need_asked (ask p (proc_of p c.args.process.now)))) c.deref.ensures c.asked.ensures.need

pub returns-clause-starts : goal.returns-clause-starts
returns-clause-starts c = subst (λ (p : Program). IfOk c.asked.result (λ q. StartsSo (ask p (proc_of p c.args.process.now)) q.block q.starts)) c.deref.ensures c.asked.ensures.starts
