use Rattle.std.proofs.Common.{drop}
use Rattle.fm_image.proofs.Steps.{CellsGo}
use Rattle.fm_image.proofs.variables.cells.Given as goal

abbrev pub invariant-variables : goal.invariant-variables
invariant-variables l = CellsGo l.initial.types l.types l.cells (drop l.variable-index l.variables) l.variables
