use Rattle.std.proofs.Common.{◌≡◌, reverse, drop}
use Rattle.fm_tree.specs.Blocks.{behind}
use Rattle.fm_tree.specs.Layout.{laid_behind, laid_out}
use Rattle.fm_unit_structure.proofs.layout.lay_out.Given as goal

abbrev pub invariant-statements : goal.invariant-statements
invariant-statements l = record {
  stack : reverse l.stack.items ≡ behind l.entries.items;
  whole : laid_behind l.entries.items l.place (drop l.place l.statements) ≡ laid_out l.statements;
}
