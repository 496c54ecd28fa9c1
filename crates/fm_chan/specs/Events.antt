-- What a process does to the channels by a port.
-- Source: the Fortran M report (SEND, RECEIVE, ENDCHANNEL), with this profile's rules on discarding.
use Rattle.std.specs.Prelude.{ℕ, Bool, true, false, cond, Option, Some, None, List, [], ◌∷◌, length, map as map_list}
use Rattle.std.specs.FinMap as map
use Rattle.fm_base.specs.declared.path.ChanName.{ChanName}
use Rattle.fm_base.specs.declared.port.PortValue.{PortValue}
use Rattle.fm_base.specs.declared.port.PortValue.TheVariants.{Writer, Reader}
use Rattle.fm_base.specs.Channels.{Message, message_ports, Chan, Chans, ChannelOp, Push, channel_of, changed, spills_at, all_shed, numbers_from}
use Rattle.fm_finmap.specs.Changes.{adjust}
use Rattle.fm_chan.specs.declared.body.Put.{Put}
use Rattle.fm_chan.specs.declared.body.Put.TheVariants.{Done, Spilt}

-- an outport sends, an inport receives
abbrev pub is_outport : PortValue → Bool
is_outport (Writer c w) = true
is_outport (Reader c) = false

-- the number of the writer
abbrev pub writer_of : PortValue → ℕ
writer_of (Writer c w) = w
writer_of (Reader c) = 0

-- the number of the writer, or none of an inport
abbrev pub writer_number : PortValue → Option ℕ
writer_number (Writer c w) = Some w
writer_number (Reader c) = None

-- the port's channel, if it is there
abbrev pub chan_at : PortValue → Chans → Option Chan
chan_at x m = map.get m (channel_of x)

-- how many writers are open there, if it is there
abbrev pub open_writers_at : Option Chan → ℕ
open_writers_at None = 0
open_writers_at (Some ch) = length ch.writers

-- the channels after an event at the port's channel, before what it discards goes
abbrev pub after_op : PortValue → ChannelOp → Chans → Chans
after_op x a m = adjust m (channel_of x) (changed a)

-- the channel with a message put first, where its inport lives
abbrev pub put_first : Message → Chan → Chan
put_first m ch = record ch { queue = cond ch.lives (m ∷ ch.queue) ch.queue }

-- the ports in what comes back from a channel whose inport is gone
abbrev pub ports_back : Put → List PortValue
ports_back (Done reader) = []
ports_back (Spilt m) = message_ports m

-- the channels after a send by the port, with what is discarded by it
abbrev pub after_send : PortValue → Message → Chans → Chans
after_send x m cs = all_shed (spills_at (Push (writer_of x) m) (chan_at x cs)) (after_op x (Push (writer_of x) m) cs)

-- and after a send to the channel of this name
abbrev pub after_send_to : ChanName → Message → Chans → Chans
after_send_to c m cs = all_shed (spills_at (Push 0 m) (map.get cs c)) (adjust cs c (changed (Push 0 m)))

-- the outports of a channel with so many writers
abbrev pub outports : ChanName → (writers : ℕ) → List PortValue
outports c n = map_list (λ w. Writer c w) (numbers_from 0 n)
