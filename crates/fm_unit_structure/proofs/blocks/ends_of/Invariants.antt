use Rattle.std.proofs.Common.{◌≡◌, reverse, drop}
use Rattle.fm_tree.specs.Blocks.{ends, ends_from}
use Rattle.fm_unit_structure.proofs.blocks.ends_of.Given as goal

abbrev pub invariant-entries : goal.invariant-entries
invariant-entries l = record {
  stack : reverse l.stack.items ≡ ends l.branches (drop l.k l.entries) l.k 0;
  whole : reverse l.all.items ≡ ends_from l.branches l.k (drop l.k l.entries);
}
