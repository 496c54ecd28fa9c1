use Rattle.std.proofs.Common.{refl, subst}
use Rattle.std.proofs.lemmas.Result.{on_ok_weaker}
use Rattle.fm_chan.specs.Bodies.{chans_of}
use Rattle.fm_chan.specs.Readers.{IsReadyAt}
use Rattle.fm_chan.specs.Rooms.{HasRoom, HasRoomIn}
use Rattle.fm_chan.proofs.Waking.{none_woken}
use Rattle.fm_chan.proofs.channels.Channels.reserve.Goals as goal

pub returns-clause-channels : goal.returns-clause-channels
unfolding chans_of
returns-clause-channels c = c.reserve.ensures.channels

pub returns-clause-ok : goal.returns-clause-ok
unfolding HasRoom
returns-clause-ok c = on_ok_weaker c.reserve.result (subst (HasRoomIn c.reserve.new.bodies) c.channel.ensures) c.reserve.ensures.ok

pub returns-clause-room : goal.returns-clause-room
unfolding HasRoom
returns-clause-room c = c.reserve.ensures.room

pub returns-clause-waking : goal.returns-clause-waking
returns-clause-waking c = none_woken IsReadyAt _ _ c.reserve.ensures.readers refl
