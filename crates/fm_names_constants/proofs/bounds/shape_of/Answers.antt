use Rattle.fm_rules.specs.Bounds.{dimension_of, shape_of}
use Rattle.fm_names_constants.specs.Kept.{kept_shape}
use Rattle.fm_names_constants.proofs.Shapes.{comes_first, comes_next}
use Rattle.fm_names_constants.proofs.bounds.shape_of.Goals as goal

pub bounds-init : goal.bounds-init
bounds-init c =
    let begins = c.shape_start-shape.ensures in
    comes_first (dimension_of c.args.known.now c.args.place) c.args.bounds.now c.shape_start-shape.result
    (record { dimensions = begins.dimensions; known = begins.known; inverted = begins.inverted; elements = begins.elements })

pub bounds-preserved : goal.bounds-preserved
bounds-preserved c =
    let grows = c.shape_with-shape.ensures in
    comes_next (dimension_of c.args.known.now c.args.place) c.args.bounds.now c.bounds.bound-index c.bound-item.result c.dimension_of.result c.bounds.shape c.shape_with-shape.result (kept_shape (shape_of c.args.known.now c.args.place c.args.bounds.now))
    c.bounds-test.true c.bound-item.is c.dimension_of.ensures (record { dimensions = grows.dimensions; known = grows.known; inverted = grows.inverted; elements = grows.elements }) c.bounds.invariant
