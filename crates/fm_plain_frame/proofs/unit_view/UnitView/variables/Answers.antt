use Rattle.std.proofs.Common.{List, sym, subst}
use Rattle.fm_symbols.specs.declared.names.Variable.{Variable}
use Rattle.fm_mean.specs.Layout.{AreLaidOut}
use Rattle.fm_mean.specs.ValueTypes.{AreSized}
use Rattle.fm_mean.proofs.Sizes.{variables_laid_out, variables_sized}
use Rattle.fm_plain_frame.specs.Units.{unit_of}
use Rattle.fm_plain_frame.proofs.UnitLaws.{unit_here}
use Rattle.fm_plain_frame.proofs.unit_view.UnitView.variables.Goals as goal

pub returns-clause-laid_out : goal.returns-clause-laid_out
returns-clause-laid_out c =
    let v = c.args.self.now in
    subst (λ (vs : List Variable). AreLaidOut 0 vs) (sym c.as_slice.ensures)
    (variables_laid_out v.program.now v.number (unit_of v) (unit_here v.program.now v.number v.tree.now v.names.now v.tree_is v.names_are))

pub returns-clause-sized : goal.returns-clause-sized
returns-clause-sized c =
    let v = c.args.self.now in
    subst (λ (vs : List Variable). AreSized vs) (sym c.as_slice.ensures)
    (variables_sized v.program.now v.number (unit_of v) (unit_here v.program.now v.number v.tree.now v.names.now v.tree_is v.names_are))
