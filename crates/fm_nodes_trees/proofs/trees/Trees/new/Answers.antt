use Rattle.std.proofs.Common.{ap, ◌∙◌}
use Rattle.fm_mean.specs.Machines.{main_nodes}
use Rattle.fm_mean.specs.Process.{Proc}
use Rattle.fm_nodes_trees.proofs.trees.Trees.new.Goals as goal

pub invariant_of-result-clause-nodes_are : goal.invariant_of-result-clause-nodes_are
invariant_of-result-clause-nodes_are c = ap (λ (x : Proc). x.execution.machine.count) c.in_ok-main.ensures ∙ ap main_nodes c.deref.ensures
