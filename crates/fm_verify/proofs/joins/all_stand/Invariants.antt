use Rattle.std.proofs.Common.{◌≡◌, drop}
use Rattle.fm_verify.specs.Tests.{joins_from}
use Rattle.fm_verify.proofs.joins.all_stand.Given as goal

-- all do where the rest does
abbrev pub invariant-code : goal.invariant-code
invariant-code l = joins_from l.code 0 l.code ≡ joins_from l.code l.at (drop l.at l.code)
