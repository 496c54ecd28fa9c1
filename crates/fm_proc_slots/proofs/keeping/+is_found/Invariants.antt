use Rattle.std.proofs.Common.{length}
use Rattle.fm_proc_slots.proofs.keeping.+is_found.Given as goal

abbrev pub decreases-is_found : goal.decreases-is_found
decreases-is_found l = length l.formals.now
