use Rattle.std.proofs.Common.{◌≡◌, ◌+◌, ◌≤◌, drop}
use Rattle.fm_image_typed.specs.Typed.{how_many, is_formal}
use Rattle.fm_verify.proofs.cells.count_formals.Given as goal

-- those before are counted
abbrev pub invariant-cells : goal.invariant-cells
invariant-cells l = record {
  same : l.count + how_many is_formal (drop l.cell-index l.cells) ≡ how_many is_formal l.cells;
  low : l.count ≤ l.cell-index;
}
