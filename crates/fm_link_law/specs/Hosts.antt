-- Processes on hosts: the processes, the channels as links, and what is on the wire; and what the network does.
-- Source: this profile.
use Rattle.std.specs.Prelude.{◌≡◌, ℕ, suc, zero, Bool, Option, Some, None, option_map, List, [], ◌∷◌, ◌++◌, filter}
use Rattle.std.specs.List.{slice_get}
use Rattle.std.specs.FinMap as map
use Rattle.fm_base.specs.declared.path.ChanName.{ChanName}
use Rattle.fm_finmap.specs.Changes.{adjust}
use Rattle.fm_net.specs.Machine.{Procs, State}
use Rattle.fm_link.specs.declared.load.Packet.{Packet}
use Rattle.fm_link.specs.Ends.{packet_of}
use Rattle.fm_link.specs.Link.{IsPacketOf, IsAckOf}
use Rattle.fm_link_law.specs.Channels.{LinkedChan, LinkedChans, chans_of, IsLinked, packet_comes, ack_comes}

-- what travels on the wire: a packet to the reader's end, or an acknowledgement to the writer's end
pub data Thing : Type 0 where
  SentPacket : (packet : Packet) → Thing
  SentAck : (next : ℕ) → Thing

-- and over which channel
abbrev pub Carried : Type 0
Carried = ChanName × Thing

-- all hosts together: the processes by their paths, the channels by their names, and the wire, in the order of sending
pub record Hosts (Proc : Type 0) : Type 0 where
  pub procs : Procs Proc
  pub channels : LinkedChans
  pub wire : List Carried

-- the state of the meaning for which they stand
abbrev pub state_of : {Proc : Type 0} → Hosts Proc → State Proc
state_of h = record { procs = h.procs; chans = chans_of h.channels }

-- what is on the wire was sent by the other end
abbrev pub IsTrueOf : LinkedChan → Thing → Type 0
IsTrueOf l (SentPacket p) = IsPacketOf l.outgoing p
IsTrueOf l (SentAck next) = IsAckOf l.incoming next

-- and its channel is there
abbrev pub IsTrueAt : LinkedChans → Carried → Type 0
IsTrueAt ls e = (l : LinkedChan) × (map.get ls e.0 ≡ Some l) × IsTrueOf l e.1

-- so of all that is on the wire
abbrev pub AreTrue : LinkedChans → List Carried → Type 0
AreTrue ls [] = Unit {0}
AreTrue ls (e ∷ es) = IsTrueAt ls e × AreTrue ls es

-- all channels are as links leave them
abbrev pub AreLinked : LinkedChans → Type 0
AreLinked ls = (c : ChanName) (l : LinkedChan) → map.get ls c ≡ Some l → IsLinked l

-- what holds between two events
pub record IsSound {Proc : Type 0} (h : Hosts Proc) : Type 0 where
  pub channels : AreLinked h.channels
  pub wire : AreTrue h.channels h.wire

-- ---- what the network does

-- what is on the wire comes to its end of the channel
abbrev pub thing_comes : Thing → LinkedChan → LinkedChan
thing_comes (SentPacket p) l = packet_comes p l
thing_comes (SentAck next) l = ack_comes next l

-- the list without its item at a place
abbrev pub without_at : {X : Type 0} → List X → ℕ → List X
without_at [] k = []
without_at (x ∷ xs) zero = xs
without_at (x ∷ xs) (suc k) = x ∷ without_at xs k

-- the packet at a place among those that aren't acknowledged
abbrev pub packet_at : Option LinkedChan → ℕ → Option Packet
packet_at None k = None
packet_at (Some l) k = packet_of l.outgoing k

module _ {Proc : Type 0} where
  -- with one thing more on the wire
  abbrev pub with_thing : Hosts Proc → Carried → Hosts Proc
  with_thing h e = record { procs = h.procs; channels = h.channels; wire = h.wire ++ e ∷ [] }

  -- the packet at this place among those that aren't acknowledged goes on the wire; none where there is none
  abbrev pub sent : Hosts Proc → ChanName → ℕ → Option (Hosts Proc)
  sent h c k = option_map (λ p. with_thing h (c, SentPacket p)) (packet_at (map.get h.channels c) k)

  -- the reader's end answers; none where there is no such channel
  abbrev pub answered : Hosts Proc → ChanName → Option (Hosts Proc)
  answered h c = option_map (λ (l : LinkedChan). with_thing h (c, SentAck l.incoming.arrived)) (map.get h.channels c)

  -- what was on the wire has come to its channel
  abbrev pub brought : Hosts Proc → Carried → Hosts Proc
  brought h e = record { procs = h.procs; channels = adjust h.channels e.0 (thing_comes e.1); wire = h.wire }

  -- the thing at a place of the wire comes to its end, and stays on the wire
  abbrev pub delivered : Hosts Proc → ℕ → Option (Hosts Proc)
  delivered h i = option_map (brought h) (slice_get h.wire i)

  -- it is lost
  abbrev pub lost : Hosts Proc → ℕ → Option (Hosts Proc)
  lost h i = option_map (λ (e : Carried). record { procs = h.procs; channels = h.channels; wire = without_at h.wire i }) (slice_get h.wire i)

  -- all is lost that fails a test, as where a host starts again
  abbrev pub restarted : (stays : Carried → Bool) → Hosts Proc → Hosts Proc
  restarted stays h = record { procs = h.procs; channels = h.channels; wire = filter stays h.wire }
