-- The two ends of a link as plain data, and what each call does to its end.
-- Source: this profile; numbered packets that are taken in order and acknowledged by the next number are the
-- go-back protocol of the literature on networks.
use Rattle.std.specs.Prelude.{ℕ, suc, ◌+◌, ◌-◌, Bool, cond, ◌&&◌, nat_lt, nat_le, ◌==◌, Option, option_map, List, [], ◌∷◌, ◌++◌, length, drop}
use Rattle.std.specs.List.{slice_get}
use Rattle.fm_link.specs.declared.load.Load.{Load}
use Rattle.fm_link.specs.declared.load.Packet.{Packet}
use Rattle.fm_link.specs.declared.inbox.Arrived.{Arrived}
use Rattle.fm_link.specs.declared.inbox.Arrived.TheVariants.{Taken, Old, Early}

-- the writer's end: how many loads are acknowledged, and the loads that were pushed and aren't, oldest first
pub record Outgoing : Type 0 where
  pub acknowledged : ℕ
  pub waiting : List Load

-- the reader's end: how many loads have arrived, and those of them that weren't taken, oldest first
pub record Incoming : Type 0 where
  pub arrived : ℕ
  pub waiting : List Load

-- ---- the writer's end

abbrev pub fresh_outgoing : Outgoing
fresh_outgoing = record { acknowledged = 0; waiting = [] }

-- how many loads were pushed
abbrev pub pushes : Outgoing → ℕ
pushes o = o.acknowledged + length o.waiting

-- with one load more, which stands last
abbrev pub with_load : Outgoing → Load → Outgoing
with_load o x = record { acknowledged = o.acknowledged; waiting = o.waiting ++ x ∷ [] }

-- the number of the load at a place among those that aren't acknowledged: how many were pushed before it
abbrev pub number_of : Outgoing → ℕ → Option ℕ
number_of o k = option_map (λ x. o.acknowledged + k) (slice_get o.waiting k)

-- and its packet
abbrev pub packet_of : Outgoing → ℕ → Option Packet
packet_of o k = option_map (λ x. record { number = o.acknowledged + k; load = x }) (slice_get o.waiting k)

-- the acknowledgement tells something new, and no more than was pushed
abbrev pub is_news : Outgoing → (next : ℕ) → Bool
is_news o next = nat_lt o.acknowledged next && nat_le next (pushes o)

-- without the loads before this number, where that is news
abbrev pub acked_by : Outgoing → (next : ℕ) → Outgoing
acked_by o next = cond (is_news o next) (record { acknowledged = next; waiting = drop (next - o.acknowledged) o.waiting }) o

-- ---- the reader's end

abbrev pub fresh_incoming : Incoming
fresh_incoming = record { arrived = 0; waiting = [] }

-- what becomes of the packet of this number: it is the next one, or it came before, or one before it didn't come yet
abbrev pub arrival : Incoming → ℕ → Arrived
arrival i n = cond (n == i.arrived) Taken (cond (nat_lt n i.arrived) Old Early)

-- the packet that is next is kept, and no other
abbrev pub with_packet : Incoming → Packet → Incoming
with_packet i p = cond (p.number == i.arrived) (record { arrived = suc i.arrived; waiting = i.waiting ++ p.load ∷ [] }) i

-- the oldest load that wasn't taken
abbrev pub first_of : Incoming → Option Load
first_of i = slice_get i.waiting 0

-- without it
abbrev pub behind_first : Incoming → Incoming
behind_first i = record { arrived = i.arrived; waiting = drop 1 i.waiting }
