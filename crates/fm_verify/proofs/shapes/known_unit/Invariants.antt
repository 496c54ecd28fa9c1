use Rattle.std.proofs.Common.{◌≡◌, map, take}
use Rattle.fm_image_typed.specs.Shapes.{cell_of}
use Rattle.fm_verify.proofs.shapes.known_unit.Given as goal

abbrev pub invariant-cells : goal.invariant-cells
invariant-cells l = l.cells.items ≡ map cell_of (take l.cell-index l.unit.cells)
