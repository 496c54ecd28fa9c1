use Rattle.std.proofs.Common.{◌≡◌, drop}
use Rattle.std.specs.List.{list_any}
use Rattle.fm_symbols.specs.declared.symbol.Direction.TheVariants.{Out}
use Rattle.fm_rules.specs.JudgedStatements.{variable_type}
use Rattle.fm_rules.specs.PortFitting.{lacks_ports}
use Rattle.fm_ports.proofs.rules.lack_outports.Given as goal

abbrev pub invariant-ports : goal.invariant-ports
invariant-ports l =
    list_any (λ v. lacks_ports Out l.site.names.now (variable_type l.site.context.now l.site.scope.now v)) (drop l.port-index l.ports)
    ≡ list_any (λ v. lacks_ports Out l.site.names.now (variable_type l.site.context.now l.site.scope.now v)) l.ports
