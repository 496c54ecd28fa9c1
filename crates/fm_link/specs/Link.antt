-- A link over a network that loses, repeats and reorders: whatever was sent may arrive, at any time and any
-- number of times. A loss is an arrival that never comes.
-- Source: this profile; that the loads received are a prefix of those sent is what the literature on networks calls
-- the safety of a link.
use Rattle.std.specs.Prelude.{◌≡◌, ℕ, ◌+◌, ◌-◌, ◌<◌, ◌≤◌, cond, ◌==◌, Option, Some, None, option_to_list, List, [], ◌∷◌, ◌++◌, length, drop}
use Rattle.std.specs.List.{slice_get}
use Rattle.fm_link.specs.declared.load.Load.{Load}
use Rattle.fm_link.specs.declared.load.Packet.{Packet}
use Rattle.fm_link.specs.Ends.{Outgoing, Incoming, fresh_outgoing, fresh_incoming, pushes, with_load, packet_of, acked_by, with_packet, first_of, behind_first}

-- the two ends, all packets and acknowledgements that were ever sent, and what was pushed, has arrived and
-- was taken, each in order of time
pub record Link : Type 0 where
  pub outgoing : Outgoing
  pub incoming : Incoming
  pub packets : List Packet
  pub acks : List ℕ
  pub pushed : List Load
  pub arrived : List Load
  pub taken : List Load

-- what may happen: a load is pushed; the packet at a place among those that aren't acknowledged is sent; an
-- acknowledgement is sent; a packet or an acknowledgement of those that were sent, by its place among them,
-- arrives; a load is taken
pub data LinkEvent : Type 0 where
  Push : (load : Load) → LinkEvent
  SendPacket : (place : ℕ) → LinkEvent
  SendAck : LinkEvent
  PacketArrives : (place : ℕ) → LinkEvent
  AckArrives : (place : ℕ) → LinkEvent
  Take : LinkEvent

abbrev pub fresh_link : Link
fresh_link = record { outgoing = fresh_outgoing; incoming = fresh_incoming; packets = []; acks = []; pushed = []; arrived = []; taken = [] }

-- the load of a packet that is taken when it arrives
abbrev pub taken_in : Incoming → Packet → List Load
taken_in i p = cond (p.number == i.arrived) (p.load ∷ []) []

abbrev pub packet_arrives : Link → Option Packet → Link
packet_arrives l None = l
packet_arrives l (Some p) = record l { incoming = with_packet l.incoming p; arrived = l.arrived ++ taken_in l.incoming p }

abbrev pub ack_arrives : Link → Option ℕ → Link
ack_arrives l None = l
ack_arrives l (Some next) = record l { outgoing = acked_by l.outgoing next }

abbrev pub happens : Link → LinkEvent → Link
happens l (Push x) = record l { outgoing = with_load l.outgoing x; pushed = l.pushed ++ x ∷ [] }
happens l (SendPacket k) = record l { packets = l.packets ++ option_to_list (packet_of l.outgoing k) }
happens l SendAck = record l { acks = l.acks ++ l.incoming.arrived ∷ [] }
happens l (PacketArrives k) = packet_arrives l (slice_get l.packets k)
happens l (AckArrives k) = ack_arrives l (slice_get l.acks k)
happens l Take = record l { incoming = behind_first l.incoming; taken = l.taken ++ option_to_list (first_of l.incoming) }

-- one event after the other
abbrev pub after_all : Link → List LinkEvent → Link
after_all l [] = l
after_all l (e ∷ es) = after_all (happens l e) es

-- the link after events, from the first one on
abbrev pub link_after : List LinkEvent → Link
link_after = after_all fresh_link

-- what was pushed, has arrived and was taken over a link, each in order of time
pub record LinkLists : Type 0 where
  pub pushed : List Load
  pub arrived : List Load
  pub taken : List Load

-- of the link after events
abbrev pub link_lists : List LinkEvent → LinkLists
link_lists es = record { pushed = (link_after es).pushed; arrived = (link_after es).arrived; taken = (link_after es).taken }

abbrev pub IsPrefixOf : List Load → List Load → Type 0
IsPrefixOf xs ys = (rest : List Load) × (xs ++ rest ≡ ys)

-- what the two ends hold, by what was pushed, has arrived and was taken
pub record HoldTheRest (l : Link) : Type 0 where
  pub waiting_out : l.outgoing.waiting ≡ drop l.outgoing.acknowledged l.pushed
  pub numbered : pushes l.outgoing ≡ length l.pushed
  pub waiting_in : l.taken ++ l.incoming.waiting ≡ l.arrived
  pub counted : l.incoming.arrived ≡ length l.arrived

-- ---- two ends without their history

-- no more is acknowledged than has arrived, and no more has arrived than was pushed
pub record AreEnds (o : Outgoing) (i : Incoming) : Type 0 where
  pub acked : o.acknowledged ≤ i.arrived
  pub had : i.arrived ≤ pushes o

-- a packet on its way is one that was pushed
pub record IsPacketOf (o : Outgoing) (p : Packet) : Type 0 where
  pub within : p.number < pushes o
  pub same : (k : ℕ) → o.acknowledged + k ≡ p.number → slice_get o.waiting k ≡ Some p.load

-- an acknowledgement on its way tells no more than has arrived
abbrev pub IsAckOf : Incoming → ℕ → Type 0
IsAckOf i next = next ≤ i.arrived

-- the loads that the reader hasn't taken: those that have arrived, and then those that haven't
abbrev pub unread : Outgoing → Incoming → List Load
unread o i = i.waiting ++ drop (i.arrived - o.acknowledged) o.waiting
