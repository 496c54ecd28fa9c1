use Rattle.std.proofs.Common.{length}
use Rattle.fm_verify_unit.proofs.kinds.Kinds.keep.Given as goal

abbrev pub decreases-kept : goal.decreases-kept
decreases-kept l = length l.self
