use Rattle.std.proofs.Common.{◌≡◌, length}
use Rattle.fm_verify_unit.specs.Along.{addresses, all_marked}
use Rattle.fm_verify_unit.proofs.unit.begin_empty.Given as goal

-- all are where the rest is
abbrev pub invariant-entries : goal.invariant-entries
invariant-entries l = all_marked l.marks 0 (addresses l.entries) ≡ all_marked l.marks 0 (addresses l.rest)

abbrev pub decreases-entries : goal.decreases-entries
decreases-entries l = length l.rest
