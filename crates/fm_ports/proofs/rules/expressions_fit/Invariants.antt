use Rattle.std.proofs.Common.{◌≡◌, map, drop}
use Rattle.fm_tree.specs.PortReading.{fields_of}
use Rattle.fm_rules.specs.JudgedStatements.{type_of}
use Rattle.fm_rules.specs.PortFitting.{fit_fields}
use Rattle.fm_ports.proofs.rules.expressions_fit.Given as goal

abbrev pub invariant-items : goal.invariant-items
invariant-items l =
    fit_fields l.site.names.now (map (type_of l.site.context.now l.site.scope.now) (drop l.index l.items)) (fields_of (drop l.index l.fields))
    ≡ fit_fields l.site.names.now (map (type_of l.site.context.now l.site.scope.now) l.items) (fields_of l.fields)
