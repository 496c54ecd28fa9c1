use Rattle.fm_rules.specs.JudgedStatements.{type_of}
use Rattle.fm_rules.specs.PortFitting.{break_formals}
use Rattle.fm_ports.proofs.Formals.{formals_done}
use Rattle.fm_ports.proofs.rules.break_formals.Goals as goal

pub returns : goal.returns
returns c =
    formals_done c.args.callee.now c.args.site.now.names.now (type_of c.args.site.now.context.now c.args.site.now.scope.now) c.actuals.actual-iterator.a.rest.now c.actuals.actual-iterator.b.rest.now
    (break_formals c.args.callee.now c.args.site.now.names.now _ c.args.formals.now) c.actuals.invariant c.in-None.ensures.steps
