use Rattle.fm_rules.specs.Bounds.{machine_dimension, machine_shape}
use Rattle.fm_names_constants.specs.Kept.{kept_shape}
use Rattle.fm_names_constants.proofs.Shapes.{comes_first, comes_next}
use Rattle.fm_names_constants.proofs.bounds.machine_shape.Goals as goal

pub extents-init : goal.extents-init
extents-init c =
    let begins = c.shape_start-shape.ensures in
    comes_first (machine_dimension c.args.known.now c.args.place) c.args.extents.now c.shape_start-shape.result
    (record { dimensions = begins.dimensions; known = begins.known; inverted = begins.inverted; elements = begins.elements })

pub extents-preserved : goal.extents-preserved
extents-preserved c =
    let grows = c.shape_with-shape.ensures in
    comes_next (machine_dimension c.args.known.now c.args.place) c.args.extents.now c.extents.extent-index c.extent-item.result c.machine_dimension.result c.extents.shape c.shape_with-shape.result (kept_shape (machine_shape c.args.known.now c.args.place c.args.extents.now))
    c.extents-test.true c.extent-item.is c.machine_dimension.ensures (record { dimensions = grows.dimensions; known = grows.known; inverted = grows.inverted; elements = grows.elements }) c.extents.invariant
