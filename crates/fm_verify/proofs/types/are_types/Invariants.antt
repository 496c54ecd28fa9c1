use Rattle.std.proofs.Common.{◌≡◌, drop}
use Rattle.fm_verify.specs.Tests.{are_types}
use Rattle.fm_verify.proofs.types.are_types.Given as goal

-- all do where the rest does
abbrev pub invariant-types : goal.invariant-types
invariant-types l = are_types 0 l.types ≡ are_types l.number (drop l.number l.types)
