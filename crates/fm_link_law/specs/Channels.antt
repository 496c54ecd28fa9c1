-- Channels that go over links: a channel as the two ends of its link, and the channel for which they stand.
-- Source: this profile.
use Rattle.std.specs.Prelude.{ℕ, zero, suc, Bool, true, false, cond, Option, Some, None, List, [], ◌∷◌, map as map_items}
use Rattle.std.specs.FinMap as map
use Rattle.fm_base.specs.declared.port.PortValue.{PortValue}
use Rattle.fm_base.specs.declared.port.PortValue.TheVariants.{Writer, Reader}
use Rattle.fm_base.specs.PathOrder.{channel_cmp}
use Rattle.fm_base.specs.Channels.{Words, Message, Chan, Chans, ChannelOp, Push, Pop, Look, Limits, fits_limits}
use Rattle.fm_finmap.specs.Changes.{adjust}
use Rattle.fm_finmap.specs.Map.{map_values}
use Rattle.fm_link.specs.declared.load.Load.{Load}
use Rattle.fm_link.specs.declared.load.Load.TheVariants as load
use Rattle.fm_link.specs.declared.load.Packet.{Packet}
use Rattle.fm_link.specs.Ends.{Outgoing, Incoming, fresh_outgoing, fresh_incoming, with_load, acked_by, with_packet, first_of, behind_first}
use Rattle.fm_link.specs.Link.{AreEnds, unread}
use Rattle.fm_link_law.specs.Loads.{load_of, messages_in, CloseIsLast}

-- a channel: the two ends of its link, whether its writer is open, and whether its inport lives
pub record LinkedChan : Type 0 where
  pub outgoing : Outgoing
  pub incoming : Incoming
  pub is_open : Bool
  pub lives : Bool

-- the channels by their names
abbrev pub LinkedChans : Type 0
LinkedChans = map.FinMap channel_cmp LinkedChan

-- one at which nothing has happened
abbrev pub fresh_linked : LinkedChan
fresh_linked = record { outgoing = fresh_outgoing; incoming = fresh_incoming; is_open = true; lives = true }

-- ---- the channel that the ends stand for: its queue is what the reader hasn't taken

-- those that were pushed and weren't taken
abbrev pub loads_left : LinkedChan → List Load
loads_left l = unread l.outgoing l.incoming

-- a gone inport has no queue, and an open writer is the first one
abbrev pub chan_of : LinkedChan → Chan
chan_of l = record { queue = cond l.lives (messages_in (loads_left l)) []; writers = cond l.is_open (0 ∷ []) []; lives = l.lives }

-- all of them, each under its name
abbrev pub chans_of : LinkedChans → Chans
chans_of ls = map_values chan_of ls

-- what holds of a channel: its ends are those of a link, and the end is pushed exactly where the writer is
-- closed, as the last load, and is never taken
pub record IsLinked (l : LinkedChan) : Type 0 where
  pub ends : AreEnds l.outgoing l.incoming
  pub closing : CloseIsLast l.is_open (loads_left l)

-- ---- what a process does at a channel

-- a message is sent: its load goes last
abbrev pub pushed : Message → LinkedChan → LinkedChan
pushed m l = record { outgoing = with_load l.outgoing (load_of m); incoming = l.incoming; is_open = l.is_open; lives = l.lives }

-- a message that has arrived is taken if it is within the limits; the end stays
abbrev pub taken_from : Limits → Option Load → LinkedChan → LinkedChan
taken_from limits None l = l
taken_from limits (Some (load.Words ws)) l = cond (fits_limits limits (map_items Words ws)) (record { outgoing = l.outgoing; incoming = behind_first l.incoming; is_open = l.is_open; lives = l.lives }) l
taken_from limits (Some load.Close) l = l

-- a process receives
abbrev pub taken : Limits → LinkedChan → LinkedChan
taken limits l = taken_from limits (first_of l.incoming) l

-- what a process's operation makes of the channel
abbrev pub op_done : ChannelOp → LinkedChan → LinkedChan
op_done (Push w m) l = pushed m l
op_done (Pop limits) l = taken limits l
op_done Look l = l

-- the writer is closed: the end goes last
abbrev pub closed : LinkedChan → LinkedChan
closed l = record { outgoing = with_load l.outgoing load.Close; incoming = l.incoming; is_open = false; lives = l.lives }

-- the inport is gone
abbrev pub gone : LinkedChan → LinkedChan
gone l = record { outgoing = l.outgoing; incoming = l.incoming; is_open = l.is_open; lives = false }

-- one port is let go
abbrev pub shut_port : PortValue → LinkedChans → LinkedChans
shut_port (Writer c w) ls = adjust ls c closed
shut_port (Reader c) ls = adjust ls c gone

-- a channel that was just made, with its one writer; with none it is at its end
abbrev pub new_linked : (writers : ℕ) → LinkedChan
new_linked zero = closed fresh_linked
new_linked (suc n) = fresh_linked

-- ports are let go, the first one first. No message holds a port, so nothing else goes with them
abbrev pub shut_ports : List PortValue → LinkedChans → LinkedChans
shut_ports [] ls = ls
shut_ports (z ∷ zs) ls = shut_ports zs (shut_port z ls)

-- ---- what the network does at a channel

-- a packet comes to the reader; a gone inport takes none
abbrev pub packet_comes : Packet → LinkedChan → LinkedChan
packet_comes p l = cond l.lives (record { outgoing = l.outgoing; incoming = with_packet l.incoming p; is_open = l.is_open; lives = l.lives }) l

-- an acknowledgement comes to the writer
abbrev pub ack_comes : (next : ℕ) → LinkedChan → LinkedChan
ack_comes next l = record { outgoing = acked_by l.outgoing next; incoming = l.incoming; is_open = l.is_open; lives = l.lives }
