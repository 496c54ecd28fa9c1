use Rattle.std.proofs.Common.{◌++◌, ap, ◌∙◌}
use Rattle.fm_image.specs.ImageOf.{cells_image}
use Rattle.fm_image.specs.Made.{unit_by}
use Rattle.fm_image.specs.Types.{needed_among}
use Rattle.fm_image.proofs.Steps.{units_end, units_step}
use Rattle.fm_image.proofs.images.units.Goals as goal

pub units-preserved : goal.units-preserved
units-preserved c =
    let n = c.index-names-number.result in
    let now = c.units.types in
    let ts = c.cells.new.types in
    let cells = c.in_ok-cells.cells in
    units_step c.args.types.now now ts c.units.units c.add.new.units cells n c.units.number c.args.trees.now c.args.names.now c.args.code.now c.units-test.true c.index-names-number.is c.units.invariant
    (c.in_ok-cells.ensures.types ∙ ap (needed_among now) c.as_slice.ensures) (c.in_ok-cells.ensures.cells ∙ ap (cells_image ts) c.as_slice.ensures)
    (c.in_ok-add.ensures ∙ (λ j. c.units.units ++ unit_by cells (c.item_at-tree.ensures j) n (c.item_at-own.ensures j)))

pub returns-clause-units : goal.returns-clause-units
returns-clause-units c = units_end c.args.types.now c.units.types c.units.units c.units.number c.args.trees.now c.args.names.now c.args.code.now c.units-test.false c.units.invariant
