use Rattle.std.proofs.Common.{◌≡◌, ◌++◌, drop, map}
use Rattle.fm_image_typed.specs.Codes.{ports_of}
use Rattle.fm_image_typed.specs.Shapes.{cell_of}
use Rattle.fm_execute_image.proofs.words.ports_of.Given as goal

-- those of the variables before are there
abbrev pub invariant-cells : goal.invariant-cells
invariant-cells l = l.ports ++ ports_of (map cell_of (drop l.cell-index l.cells)) ≡ ports_of (map cell_of l.cells)
