use Rattle.std.proofs.Common.{◌≡◌, length, map}
use Rattle.fm_base.specs.Channels.{Words, fits_limits}
use Rattle.fm_nodes_hosts.proofs.receiving.fits.Given as goal

abbrev pub invariant-limits : goal.invariant-limits
invariant-limits l = fits_limits l.fn.limits (map Words l.fn.items) ≡ fits_limits l.limits (map Words l.items)

abbrev pub decreases-limits : goal.decreases-limits
decreases-limits l = length l.limits
