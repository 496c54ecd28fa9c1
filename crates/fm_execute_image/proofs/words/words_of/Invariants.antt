use Rattle.std.proofs.Common.{◌≡◌, ◌+◌, drop, map}
use Rattle.fm_code_kinds.specs.Shapes.{words_of}
use Rattle.fm_image_typed.specs.Shapes.{cell_of}
use Rattle.fm_execute_image.proofs.words.words_of.Given as goal

-- those of the variables before are counted
abbrev pub invariant-cells : goal.invariant-cells
invariant-cells l = l.words + words_of (map cell_of (drop l.cell-index l.cells)) ≡ words_of (map cell_of l.cells)
