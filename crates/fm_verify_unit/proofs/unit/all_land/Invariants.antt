use Rattle.std.proofs.Common.{◌≡◌, length}
use Rattle.fm_verify_unit.specs.Along.{all_land}
use Rattle.fm_verify_unit.proofs.unit.all_land.Given as goal

-- all do where the rest does
abbrev pub invariant-code : goal.invariant-code
invariant-code l = all_land l.marks l.initial.lefts l.initial.code ≡ all_land l.marks l.lefts l.code

abbrev pub decreases-code : goal.decreases-code
decreases-code l = length l.lefts
