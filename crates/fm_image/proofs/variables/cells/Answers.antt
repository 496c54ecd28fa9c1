use Rattle.std.proofs.Common.{◌+◌, drop}
use Rattle.fm_image.proofs.Steps.{at_place, cells_at}
use Rattle.fm_image.proofs.variables.cells.Goals as goal

pub variables-preserved : goal.variables-preserved
variables-preserved c =
    let v = c.variable-item.result in
    let i = c.variables.variable-index in
    let vs = c.args.variables.now in
    rw c.in_ok-push.ensures.ok
    (cells_at c.args.types.now c.variables.types c.cell.new.types c.variables.cells v (drop i vs) (drop (i + 1) vs) vs c.in_ok-cell.field-0 (at_place vs i v c.variables-test.true c.variable-item.is) c.variables.invariant c.in_ok-cell.ensures.types c.in_ok-cell.ensures.cell)
