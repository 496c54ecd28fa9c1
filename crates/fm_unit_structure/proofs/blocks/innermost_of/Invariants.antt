use Rattle.std.proofs.Common.{◌≡◌, ◌++◌, reverse, take, drop}
use Rattle.fm_tree.specs.Blocks.{behind, inner_from, inner_list}
use Rattle.fm_unit_structure.proofs.blocks.innermost_of.Given as goal

abbrev pub invariant-entries : goal.invariant-entries
invariant-entries l = record {
  stack : reverse l.stack.items ≡ behind (take l.k l.entries);
  whole : l.all.items ++ inner_from (reverse (take l.k l.entries)) (drop l.k l.entries) ≡ inner_list l.entries;
}
