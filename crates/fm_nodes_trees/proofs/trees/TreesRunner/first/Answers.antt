use Rattle.std.proofs.Common.{◌≡◌, subst}
use Rattle.std.specs.Prelude.{IfOk}
use Rattle.fm_rules.specs.declared.program.Program.{Program}
use Rattle.fm_mean.specs.Steps.{first_proc}
use Rattle.fm_plain_frame.specs.Frames.{proc_of}
use Rattle.fm_nodes_trees.proofs.trees.TreesRunner.first.Goals as goal

pub returns : goal.returns
returns c = subst (λ (p : Program). IfOk c.main.result (λ x. proc_of p x ≡ first_proc p)) c.deref.ensures c.main.ensures
