use Rattle.std.proofs.Common.{◌≡◌, drop}
use Rattle.fm_rules.specs.TypeStatements.{in_any, declaration_flags}
use Rattle.fm_types.proofs.Places.{any_from}
use Rattle.fm_types.proofs.parts.any_declaration_flags.Given as goal

abbrev pub invariant-loop-declaration : goal.invariant-loop-declaration
invariant-loop-declaration l = any_from (declaration_flags l.context l.scope l.scalar) l.flags (drop l.declaration-index l.declarations) ≡ in_any (declaration_flags l.context l.scope l.scalar) l.declarations
