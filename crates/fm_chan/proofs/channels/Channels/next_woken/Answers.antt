use Rattle.std.proofs.Common.{refl}
use Rattle.fm_chan.specs.Bodies.{chans_of}
use Rattle.fm_chan.specs.Rooms.{HasRoom}
use Rattle.fm_chan.specs.Woken.{waiting_reader}
use Rattle.fm_chan.proofs.channels.Channels.next_woken.Goals as goal

pub returns-clause-channels : goal.returns-clause-channels
unfolding chans_of
returns-clause-channels c = refl

pub returns-clause-readers : goal.returns-clause-readers
unfolding waiting_reader
returns-clause-readers c = λ d. refl

pub returns-clause-room : goal.returns-clause-room
unfolding HasRoom
returns-clause-room c = λ d room. room
