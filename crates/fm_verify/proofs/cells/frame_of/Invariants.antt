use Rattle.std.proofs.Common.{◌≡◌, ◌+◌, drop, map}
use Rattle.fm_code_kinds.specs.Shapes.{words_of}
use Rattle.fm_image_typed.specs.Shapes.{cell_of}
use Rattle.fm_verify.specs.Tests.{are_cells}
use Rattle.fm_verify.proofs.cells.frame_of.Given as goal

-- all make sense where the rest does, and the words before it are counted
abbrev pub invariant-cells : goal.invariant-cells
invariant-cells l = record {
  same : are_cells l.types 0 l.cells ≡ are_cells l.types l.word (drop l.cell-index l.cells);
  words : l.word + words_of (map cell_of (drop l.cell-index l.cells)) ≡ words_of (map cell_of l.cells);
}
