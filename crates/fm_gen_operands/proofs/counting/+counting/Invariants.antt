use Rattle.std.proofs.Common.{◌≡◌, ◌+◌, drop}
use Rattle.fm_tree.specs.Tree.{node_count, node_counts, trees_from}
use Rattle.fm_mean.specs.Evaluate.{refs_in_all}
use Rattle.fm_plain_frame.specs.Units.{unit_of}
use Rattle.fm_mean.specs.Referring.{names_in}
use Rattle.fm_gen_operands.proofs.counting.+counting.Given as goal

abbrev pub decreases-references_in : goal.decreases-references_in
decreases-references_in l = node_count l.tree.now

abbrev pub decreases-references : goal.decreases-references
decreases-references l = node_counts (trees_from l.trees.now)

abbrev pub invariant-references-trees : goal.invariant-references-trees
invariant-references-trees l =
    let s = names_in l.unit.program.now (unit_of l.unit) in
    l.next + refs_in_all s (trees_from (drop l.tree-index l.trees)) ≡ l.fn.next + refs_in_all s (trees_from l.trees)
