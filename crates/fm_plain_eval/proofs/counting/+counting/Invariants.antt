use Rattle.std.proofs.Common.{◌≡◌, ◌+◌, drop}
use Rattle.fm_tree.specs.Tree.{node_count, node_counts, trees_from}
use Rattle.fm_mean.specs.Evaluate.{refs_in_all}
use Rattle.fm_plain_eval.specs.Scopes.{scope_of}
use Rattle.fm_plain_eval.proofs.counting.+counting.Given as goal

abbrev pub decreases-references_in : goal.decreases-references_in
decreases-references_in l = node_count l.tree.now

abbrev pub decreases-references : goal.decreases-references
decreases-references l = node_counts (trees_from l.trees.now)

abbrev pub invariant-references-trees : goal.invariant-references-trees
invariant-references-trees l = l.next + refs_in_all (scope_of l.scope) (trees_from (drop l.tree-index l.trees)) ≡ l.fn.next + refs_in_all (scope_of l.scope) (trees_from l.trees)
