use Rattle.std.proofs.Common.{◌+◌, ◌*◌}
use Rattle.fm_tree.specs.Tree.{node_count, node_counts, trees_from}
use Rattle.fm_plain_eval.specs.Scopes.{scope_of}
use Rattle.fm_plain_eval.proofs.Walks.{IsOn, all_numbers, all_refs}
use Rattle.fm_plain_eval.proofs.values.+evaluating.Given as goal

abbrev pub decreases-value : goal.decreases-value
decreases-value l = 3 * node_count l.tree.now

abbrev pub decreases-reference_value : goal.decreases-reference_value
decreases-reference_value l = 3 * node_counts (trees_from l.arguments.now) + 2

abbrev pub decreases-element : goal.decreases-element
decreases-element l = 3 * node_counts (trees_from l.subscripts.now) + 1

abbrev pub decreases-numbers : goal.decreases-numbers
decreases-numbers l = 3 * node_counts (trees_from l.trees.now)

abbrev pub invariant-numbers-trees : goal.invariant-numbers-trees
invariant-numbers-trees l = IsOn (all_numbers (scope_of l.scope)) (all_refs (scope_of l.scope)) l.trees l.fn.next l.tree-index l.numbers l.next
