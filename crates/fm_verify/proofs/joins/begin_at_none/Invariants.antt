use Rattle.std.proofs.Common.{◌≡◌, drop}
use Rattle.fm_verify_unit.specs.Along.{addresses}
use Rattle.fm_verify.specs.Tests.{none_joins}
use Rattle.fm_verify.proofs.joins.begin_at_none.Given as goal

-- none does where none of the rest does
abbrev pub invariant-entries : goal.invariant-entries
invariant-entries l = none_joins l.code (addresses l.entries) ≡ none_joins l.code (addresses (drop l.entry-index l.entries))
