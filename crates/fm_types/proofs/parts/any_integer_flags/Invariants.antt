use Rattle.std.proofs.Common.{◌≡◌, drop}
use Rattle.fm_rules.specs.TypeStatements.{in_any, integer_flags}
use Rattle.fm_types.proofs.Places.{any_from}
use Rattle.fm_types.proofs.parts.any_integer_flags.Given as goal

abbrev pub invariant-loop-expr : goal.invariant-loop-expr
invariant-loop-expr l = any_from (integer_flags l.context l.scope) l.flags (drop l.expr-index l.exprs) ≡ in_any (integer_flags l.context l.scope) l.exprs
