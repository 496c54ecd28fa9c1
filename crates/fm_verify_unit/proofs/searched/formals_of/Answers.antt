use Rattle.std.proofs.Common.{arith}
use Rattle.fm_verify_unit.proofs.Formals.{filled_before, none_filled}
use Rattle.fm_verify_unit.proofs.searched.formals_of.Goals as goal

pub places-init : goal.places-init
places-init c = none_filled c.refill.new.self c.args.cells.now c.in_ok-refill.ensures

pub places-preserved : goal.places-preserved
places-preserved c =
    filled_before c.places.formals c.put_formal.new.formals c.args.cells.now c.places.place c.cell_there.result c.places.invariant (omega arith) c.cell_there.ensures c.put_formal.ensures
