use Rattle.std.proofs.Common.{◌≡◌, length}
use Rattle.std.specs.Prelude.{map}
use Rattle.fm_base.specs.Channels.{fits_limits}
use Rattle.fm_chan.specs.Items.{plain_item}
use Rattle.fm_proc_language.specs.Processes.{limits_of}
use Rattle.fm_proc_events.proofs.fitting.items_fit.Given as goal

abbrev pub invariant-operands : goal.invariant-operands
invariant-operands l = fits_limits (limits_of l.fn.operands) (map plain_item l.fn.items) ≡ fits_limits (limits_of l.operands) (map plain_item l.items)

abbrev pub decreases-operands : goal.decreases-operands
decreases-operands l = length l.operands
