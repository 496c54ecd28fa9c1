-- Channels that are made.
use Rattle.std.proofs.Common.{◌≡◌, ◌∙◌}
use Rattle.std.specs.FinMap.{insert}
use Rattle.fm_base.specs.declared.path.ChanName.{ChanName}
use Rattle.fm_base.specs.declared.port.PortValue.TheVariants.{Writer}
use Rattle.fm_base.specs.Channels.{Chans, discarded, fresh, shut}
use Rattle.fm_finmap.proofs.Adjusts.{adjust-insert}
use Rattle.fm_finmap.proofs.Inserts.{insert_again, insert_here}
use Rattle.fm_net.proofs.Counts.{shut-closed}
use Rattle.fm_net.proofs.Keys.{channel_order}

-- a channel whose one writer is closed at once
pub no_writer : (m : Chans) (c : ChanName) → shut (Writer c 0) (insert m c (fresh 1)) ≡ insert m c (fresh 0)
no_writer m c =
    shut-closed (Writer c 0) (insert m c (fresh 1))
    ∙ adjust-insert channel_order (insert m c (fresh 1)) c (discarded (Writer c 0)) (fresh 1) (insert_here channel_order m c (fresh 1))
    ∙ insert_again channel_order m c (fresh 1) (fresh 0)
