use Rattle.std.proofs.Common.{◌≡◌, drop}
use Rattle.fm_verify.specs.Tests.{all_taken}
use Rattle.fm_verify.proofs.cells.all_taken.Given as goal

-- all are where the rest is
abbrev pub invariant-places : goal.invariant-places
invariant-places l = all_taken l.taken ≡ all_taken (drop l.there-index l.taken)
