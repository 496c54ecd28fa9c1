use Rattle.std.proofs.Common.{length}
use Rattle.fm_map.proofs.seats.+product.Given as goal

abbrev pub decreases-product : goal.decreases-product
decreases-product l = length l.extents.now
