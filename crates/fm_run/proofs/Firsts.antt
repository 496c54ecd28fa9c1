-- Before the first piece no port is open.
use Rattle.std.proofs.Common.{◌≡◌, ap}
use Rattle.std.specs.FinMap.{get-empty}
use Rattle.fm_base.specs.PathOrder.{channel_cmp}
use Rattle.fm_base.specs.Channels.{Chan, channel_of}
use Rattle.fm_base.specs.declared.port.PortValue.{PortValue}
use Rattle.fm_net.specs.Owned.{open_at, opened}
use Rattle.fm_run.specs.Plays.{Play, first}

pub none_open : (program : Play) (z : PortValue) → opened (first program).chans z ≡ 0
unfolding open_at
none_open program z = ap (open_at z) (get-empty {X = Chan} channel_cmp (channel_of z))
