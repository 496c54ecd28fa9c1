use Rattle.std.proofs.Common.{◌≡◌, drop}
use Rattle.std.specs.Prelude.{option_map}
use Rattle.std.specs.FinMap.{get}
use Rattle.fm_base.specs.PathOrder.{channel_cmp}
use Rattle.fm_base.specs.declared.path.ChanName.{ChanName}
use Rattle.fm_finmap.specs.Map.{map_of}
use Rattle.fm_wait.specs.Waits.{least_holder}
use Rattle.fm_wait.proofs.holders.least_holders.Given as goal

abbrev pub invariant-holders : goal.invariant-holders
invariant-holders l = (c : ChanName) → option_map (λ h. h.now) (get (map_of channel_cmp l.least) c) ≡ least_holder c (drop l.k l.holders)
