use Rattle.std.proofs.Common.{◌≡◌, take}
use Rattle.fm_code.proofs.copying.copy_starts.Given as goal

abbrev pub invariant-starts : goal.invariant-starts
invariant-starts l = l.copies ≡ take l.start-index l.starts
