use Rattle.fm_chan.specs.Bodies.{chans_of}
use Rattle.fm_chan.specs.Rooms.{HasRoom}
use Rattle.fm_chan.specs.Readers.{IsClosedAt}
use Rattle.fm_chan.proofs.Waking.{one_woken}
use Rattle.fm_chan.proofs.channels.Channels.shut.Goals as goal

pub returns-clause-channels : goal.returns-clause-channels
unfolding chans_of
returns-clause-channels c = c.shut-reader.ensures.channels

pub returns-clause-ports : goal.returns-clause-ports
unfolding chans_of
returns-clause-ports c = c.shut-reader.ensures.ports

pub returns-clause-room : goal.returns-clause-room
unfolding HasRoom
returns-clause-room c = c.shut-reader.ensures.room

pub returns-clause-waking : goal.returns-clause-waking
returns-clause-waking c = one_woken IsClosedAt _ _ c.shut-reader.result c.shut-reader.ensures.readers c.wake.ensures.items
