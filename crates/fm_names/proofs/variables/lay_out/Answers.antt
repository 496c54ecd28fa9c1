use Rattle.std.proofs.Common.{refl}
use Rattle.fm_names.proofs.Layouts.{lays_more, no_variables}
use Rattle.fm_names.proofs.variables.lay_out.Goals as goal

pub first-init : goal.first-init
first-init c = no_variables c.args.titles.now c.args.heading.now c.args.sheet.now c.args.first.now (record { variables = c.new.result; words = 0 }) c.new.ensures refl

pub first-preserved : goal.first-preserved
first-preserved c =
    lays_more c.args.titles.now c.args.heading.now c.args.sheet.now c.args.first.now c.first.occurrence-index c.occurrence-item.result c.first.layout c.add_variable.new.layout
    c.first-test.true c.occurrence-item.is c.in_ok-add_variable.ensures c.first.invariant
