use Rattle.std.proofs.Common.{◌≡◌, drop, map}
use Rattle.fm_symbols.specs.ByName.{first_of_each, with_all}
use Rattle.fm_execute_image.specs.Outcome.{cell_shown}
use Rattle.fm_execute_image.proofs.rows.by_name.Given as goal

-- with the rest of the variables it is all
abbrev pub invariant-cells : goal.invariant-cells
invariant-cells l = with_all l.all (map (cell_shown l.slots l.words) (drop l.cell-index l.cells)) ≡ first_of_each (map (cell_shown l.slots l.words) l.cells)
