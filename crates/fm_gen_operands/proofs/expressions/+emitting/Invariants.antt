use Rattle.std.proofs.Common.{◌≡◌, ◌+◌, ◌*◌, ◌++◌, drop}
use Rattle.fm_tree.specs.Tree.{node_count, node_counts, trees_from}
use Rattle.fm_mean.specs.Evaluate.{refs_in_all}
use Rattle.fm_plain_frame.specs.Units.{unit_of}
use Rattle.fm_gen_operands.specs.Code.{expressions_code}
use Rattle.fm_mean.specs.Referring.{names_in}
use Rattle.fm_gen_operands.proofs.expressions.+emitting.Given as goal

abbrev pub decreases-emit : goal.decreases-emit
decreases-emit l = 2 * node_count l.tree.now

abbrev pub decreases-emit_reference : goal.decreases-emit_reference
decreases-emit_reference l = 2 * node_counts (trees_from l.arguments.now) + 1

abbrev pub decreases-emit_all : goal.decreases-emit_all
decreases-emit_all l = 2 * node_counts (trees_from l.trees.now)

abbrev pub invariant-emit_all-trees : goal.invariant-emit_all-trees
invariant-emit_all-trees l =
    let p = l.unit.program.now in
    let u = unit_of l.unit in
    record {
      code : l.out ++ expressions_code p u (trees_from (drop l.tree-index l.trees)) l.next ≡ l.fn.out ++ expressions_code p u (trees_from l.trees) l.fn.next;
      next : l.next + refs_in_all (names_in p u) (trees_from (drop l.tree-index l.trees)) ≡ l.fn.next + refs_in_all (names_in p u) (trees_from l.trees);
    }
