use Rattle.std.proofs.Common.{◌≡◌, drop}
use Rattle.fm_rules.specs.TypeStatements.{in_any, port_flags}
use Rattle.fm_types.proofs.Places.{any_from}
use Rattle.fm_types.proofs.parts.any_port_flags.Given as goal

abbrev pub invariant-loop-variable : goal.invariant-loop-variable
invariant-loop-variable l = any_from (port_flags l.context l.scope) l.flags (drop l.variable-index l.variables) ≡ in_any (port_flags l.context l.scope) l.variables
