use Rattle.std.proofs.Common.{◌≡◌, drop}
use Rattle.fm_rules.specs.TypeStatements.{in_any, extra_flags}
use Rattle.fm_types.proofs.Places.{any_from}
use Rattle.fm_types.proofs.parts.any_extra_flags.Given as goal

abbrev pub invariant-loop-extra : goal.invariant-loop-extra
invariant-loop-extra l = any_from (extra_flags l.context l.scope) l.flags (drop l.extra-index l.extras) ≡ in_any (extra_flags l.context l.scope) l.extras
