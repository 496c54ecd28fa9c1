use Rattle.fm_plain_frame.proofs.UnitLaws.{scope_here, scope_missing, links_here, links_missing}
use Rattle.fm_plain_frame.proofs.unit_view.UnitView.new.Goals as goal

pub returns-in_err-scope-clause-unit : goal.returns-in_err-scope-clause-unit
returns-in_err-scope-clause-unit c =
    let p = c.args.program.now in
    absurd (scope_missing p.units.units p.names.units c.args.number c.in_ok-tree.tree.now c.in_ok-names.names.now c.in_ok-tree.ensures c.in_ok-names.ensures c.in_err-scope.ensures)

pub returns-in_err-links-clause-unit : goal.returns-in_err-links-clause-unit
returns-in_err-links-clause-unit c = absurd (links_missing c.args.program.now.units.units c.args.number c.in_ok-tree.tree.now c.in_ok-tree.ensures c.in_err-links.ensures)

pub invariant_of-result-clause-scope_is : goal.invariant_of-result-clause-scope_is
invariant_of-result-clause-scope_is c =
    let p = c.args.program.now in
    scope_here p.units.units p.names.units c.args.number c.in_ok-tree.tree.now c.in_ok-names.names.now c.in_ok-scope.scope.now c.in_ok-tree.ensures c.in_ok-names.ensures c.in_ok-scope.ensures

pub invariant_of-result-clause-links_are : goal.invariant_of-result-clause-links_are
invariant_of-result-clause-links_are c = links_here c.args.program.now.units.units c.args.number c.in_ok-tree.tree.now c.in_ok-links.links.now c.in_ok-tree.ensures c.in_ok-links.ensures
