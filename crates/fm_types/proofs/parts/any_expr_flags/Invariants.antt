use Rattle.std.proofs.Common.{◌≡◌, drop}
use Rattle.fm_rules.specs.TypeStatements.{in_any, expr_flags}
use Rattle.fm_types.proofs.Places.{any_from}
use Rattle.fm_types.proofs.parts.any_expr_flags.Given as goal

abbrev pub invariant-loop-item : goal.invariant-loop-item
invariant-loop-item l = any_from (expr_flags l.context l.scope) l.flags (drop l.item-index l.items) ≡ in_any (expr_flags l.context l.scope) l.items
