use Rattle.std.proofs.Common.{length}
use Rattle.fm_plain.proofs.messages.+iostat.Given as goal

abbrev pub decreases-iostat : goal.decreases-iostat
decreases-iostat l = length l.extras.now
