use Rattle.std.proofs.Common.{◌≡◌, [], drop, take}
use Rattle.fm_verify.specs.Tests.{are_fields}
use Rattle.fm_verify.proofs.types.are_fields.Given as goal

-- all do where the rest does
abbrev pub invariant-places : goal.invariant-places
invariant-places l = are_fields l.types [] l.fields ≡ are_fields l.types (take l.place l.fields) (drop l.place l.fields)
