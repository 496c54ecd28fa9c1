use Rattle.std.proofs.Common.{◌≡◌, ◌+◌, ◌++◌, drop}
use Rattle.fm_tree.specs.Tree.{trees_from}
use Rattle.fm_mean.specs.Evaluate.{refs_in_all}
use Rattle.fm_plain_frame.specs.Units.{unit_of}
use Rattle.fm_mean.specs.Referring.{names_in}
use Rattle.fm_gen_operands.specs.Places.{arguments_code}
use Rattle.fm_gen_operands.proofs.actuals.arguments.Given as goal

abbrev pub invariant-trees : goal.invariant-trees
invariant-trees l =
    let p = l.unit.program.now in
    let u = unit_of l.unit in
    record {
      code : l.out ++ arguments_code p u (trees_from (drop l.tree-index l.trees)) l.next ≡ l.fn.out ++ arguments_code p u (trees_from l.trees) l.fn.next;
      next : l.next + refs_in_all (names_in p u) (trees_from (drop l.tree-index l.trees)) ≡ l.fn.next + refs_in_all (names_in p u) (trees_from l.trees);
    }
