use Rattle.std.proofs.Common.{◌≡◌, [], drop}
use Rattle.fm_verify.specs.Tests.{are_apart}
use Rattle.fm_verify.proofs.cells.are_apart.Given as goal

-- all are apart where the rest is
abbrev pub invariant-cells : goal.invariant-cells
invariant-cells l = are_apart [] l.cells ≡ are_apart l.names.keys (drop l.cell-index l.cells)
