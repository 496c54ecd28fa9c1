use Rattle.std.proofs.Common.{◌≡◌, length}
use Rattle.std.specs.Prelude.{map}
use Rattle.fm_base.specs.Channels.{fits_limits}
use Rattle.fm_chan.specs.Items.{plain_item}
use Rattle.fm_chan.proofs.limits.items_fit.Given as goal

abbrev pub invariant-limits : goal.invariant-limits
invariant-limits l = fits_limits l.fn.limits (map plain_item l.fn.items) ≡ fits_limits l.limits (map plain_item l.items)

abbrev pub decreases-limits : goal.decreases-limits
decreases-limits l = length l.limits
