use Rattle.std.proofs.Common.{◌≡◌, map}
use Rattle.fm_rules.specs.JudgedStatements.{type_of}
use Rattle.fm_rules.specs.PortFitting.{break_formals}
use Rattle.fm_ports.proofs.rules.break_formals.Given as goal

abbrev pub invariant-actuals : goal.invariant-actuals
invariant-actuals l =
    break_formals l.callee l.site.names.now (map (type_of l.site.context.now l.site.scope.now) l.actual-iterator.a.rest.now) l.actual-iterator.b.rest.now
    ≡ break_formals l.callee l.site.names.now (map (type_of l.site.context.now l.site.scope.now) l.actuals) l.formals
