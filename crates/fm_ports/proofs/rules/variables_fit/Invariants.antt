use Rattle.std.proofs.Common.{◌≡◌, map, drop}
use Rattle.fm_tree.specs.PortReading.{fields_of}
use Rattle.fm_rules.specs.JudgedStatements.{variable_type}
use Rattle.fm_rules.specs.PortFitting.{fit_fields}
use Rattle.fm_ports.proofs.rules.variables_fit.Given as goal

abbrev pub invariant-variables : goal.invariant-variables
invariant-variables l =
    fit_fields l.site.names.now (map (variable_type l.site.context.now l.site.scope.now) (drop l.index l.variables)) (fields_of (drop l.index l.fields))
    ≡ fit_fields l.site.names.now (map (variable_type l.site.context.now l.site.scope.now) l.variables) (fields_of l.fields)
