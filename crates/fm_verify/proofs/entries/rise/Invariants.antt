use Rattle.std.proofs.Common.{◌≡◌, drop}
use Rattle.fm_verify_unit.specs.Along.{addresses}
use Rattle.fm_verify.specs.Tests.{rise_from}
use Rattle.fm_verify.proofs.entries.rise.Given as goal

-- all rise where the rest does
abbrev pub invariant-entries : goal.invariant-entries
invariant-entries l = rise_from 0 (addresses l.entries) ≡ rise_from l.low (addresses (drop l.entry-index l.entries))
