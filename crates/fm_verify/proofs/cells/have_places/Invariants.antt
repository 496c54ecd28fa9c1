use Rattle.std.proofs.Common.{◌≡◌, Some, drop}
use Rattle.fm_verify.specs.Tests.{fill, have_places}
use Rattle.fm_verify.proofs.cells.have_places.Given as goal

-- all have theirs where the rest takes those that are free
abbrev pub invariant-cells : goal.invariant-cells
invariant-cells l = have_places l.cells ≡ fill (Some l.taken) (drop l.cell-index l.cells)
