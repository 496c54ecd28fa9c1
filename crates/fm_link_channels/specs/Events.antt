-- Which events of one channel's link an event at hosts has.
-- Source: this profile, after the events of links and the steps of processes on hosts.
use Rattle.std.specs.Prelude.{◌≡◌, ◌≢◌, ℕ, zero, suc, Bool, true, false, cond, Option, Some, None, List, [], ◌∷◌, ◌++◌, map}
use Rattle.std.specs.FinMap as finite
use Rattle.std.specs.List.{slice_get}
use Rattle.std.specs.Ordering.{eq_by_cmp}
use Rattle.fm_base.specs.PathOrder.{channel_cmp}
use Rattle.fm_base.specs.declared.path.ChanName.{ChanName}
use Rattle.fm_base.specs.declared.port.PortValue.{PortValue}
use Rattle.fm_base.specs.declared.port.PortValue.TheVariants.{Writer, Reader}
use Rattle.fm_base.specs.Channels.{Words, ChannelOp, Push, Pop, Look, Limits, fits_limits}
use Rattle.fm_net.specs.Machine.{Place, Need, Nothing, Event, New, Children, Reply, Onward, Ask, Stop, Go, made}
use Rattle.fm_net.specs.Language.{Language}
use Rattle.fm_net.specs.Owned.{name_of}
use Rattle.fm_link.specs.declared.load.Load.{Load}
use Rattle.fm_link.specs.declared.load.Load.TheVariants as load
use Rattle.fm_link.specs.Ends.{first_of}
use Rattle.fm_link.specs.Link as link
use Rattle.fm_link.specs.Link.{Link, LinkEvent, after_all}
use Rattle.fm_link_law.specs.Loads.{load_of}
use Rattle.fm_link_law.specs.Channels.{LinkedChan, LinkedChans, shut_port}
use Rattle.fm_link_law.specs.Hosts.{Hosts, Thing, SentPacket, SentAck, Carried}
use Rattle.fm_link_law.specs.Steps.{served_here, linked_after}
use Rattle.fm_link_law.specs.Play.{HostEvent, Step, Send, Answer, Deliver, Lose, Restart, happens}

-- what happens at the channel d is an event of the link of c where these are one channel
abbrev pub where_same : (c d : ChanName) → List LinkEvent → List LinkEvent
where_same c d es = cond (eq_by_cmp channel_cmp c d) es []

-- ---- a step

-- a receive takes the first load that has arrived, if it is a message within the limits. The end stays
abbrev pub receive_events : Limits → Option Load → List LinkEvent
receive_events limits None = []
receive_events limits (Some (load.Words ws)) = cond (fits_limits limits (map Words ws)) (link.Take ∷ []) []
receive_events limits (Some load.Close) = []

-- a send pushes its message
abbrev pub op_events : ChannelOp → LinkedChan → List LinkEvent
op_events (Push w m) l = link.Push (load_of m) ∷ []
op_events (Pop limits) l = receive_events limits (first_of l.incoming)
op_events Look l = []

-- where the channel is there
abbrev pub op_events_at : ChannelOp → Option LinkedChan → List LinkEvent
op_events_at a None = []
op_events_at a (Some l) = op_events a l

-- a channel without a writer is made at its end
abbrev pub new_events : (writers : ℕ) → List LinkEvent
new_events zero = link.Push load.Close ∷ []
new_events (suc n) = []

-- what a process needs is done
abbrev pub need_events : ChanName → Place → Need → LinkedChans → List LinkEvent
need_events c p Nothing ls = []
need_events c p (Event d a) ls = where_same c d (op_events_at a (finite.get ls c))
need_events c p (New n k) ls = where_same c (name_of p n) (new_events k)
need_events c p (Children b n) ls = []

-- the writer of a channel is closed
abbrev pub close_events : Option LinkedChan → List LinkEvent
close_events None = []
close_events (Some l) = link.Push load.Close ∷ []

-- a port is let go: a writer pushes the end, and a reader is no event of the link
abbrev pub shut_events : ChanName → PortValue → LinkedChans → List LinkEvent
shut_events c (Writer d w) ls = where_same c d (close_events (finite.get ls c))
shut_events c (Reader d) ls = []

-- ports are let go, the first one first
abbrev pub all_shut_events : ChanName → List PortValue → LinkedChans → List LinkEvent
all_shut_events c [] ls = []
all_shut_events c (z ∷ zs) ls = shut_events c z ls ++ all_shut_events c zs (shut_port z ls)

module _ {Proc : Type 0} (language : Language Proc) (h : Hosts Proc) (p : Place) (c : ChanName) where
  -- a process goes on
  abbrev pub going_events : Need → Onward Proc → List LinkEvent
  going_events need o = need_events c p need h.channels ++ all_shut_events c o.drops (linked_after p need h.channels)

  -- with the reply that it got; where it waits, nothing happens
  abbrev pub reply_events : Need → (ChanName → Reply Proc → Onward Proc) → Option (Reply Proc) → List LinkEvent
  reply_events need f None = []
  reply_events need f (Some r) = going_events need (f (made p need) r)

  abbrev pub ask_events : Ask Proc → List LinkEvent
  ask_events Stop = []
  ask_events (Go need f) = reply_events need f (served_here language.has_ended h.procs h.channels p need)

  abbrev pub place_events : Option Proc → List LinkEvent
  place_events None = []
  place_events (Some x) = ask_events (language.ask x)

  -- the step of the process at this place, if it has one
  abbrev pub step_events : List LinkEvent
  step_events = place_events (finite.get h.procs p)

-- ---- what the network does

-- the reader's end answers
abbrev pub answer_events : Option LinkedChan → List LinkEvent
answer_events None = []
answer_events (Some l) = link.SendAck ∷ []

-- a thing comes over the channel: it is one of those that were sent over the link, and arrives there. A gone inport takes no packet
abbrev pub IsArrival : Link → Thing → (lives : Bool) → List LinkEvent → Type 0
IsArrival l (SentPacket p) true es = (k : ℕ) × (slice_get l.packets k ≡ Some p) × (es ≡ link.PacketArrives k ∷ [])
IsArrival l (SentPacket p) false es = es ≡ []
IsArrival l (SentAck n) lives es = (k : ℕ) × (slice_get l.acks k ≡ Some n) × (es ≡ link.AckArrives k ∷ [])

abbrev pub IsArrivalAt : Link → Thing → Option LinkedChan → List LinkEvent → Type 0
IsArrivalAt l t None es = es ≡ []
IsArrivalAt l t (Some k) es = IsArrival l t k.lives es

-- what comes over another channel is no event of this link
pub record IsBrought (c : ChanName) (l : Link) (ls : LinkedChans) (e : Carried) (es : List LinkEvent) : Type 0 where
  pub here : e.0 ≡ c → IsArrivalAt l e.1 (finite.get ls c) es
  pub elsewhere : e.0 ≢ c → es ≡ []

-- where there is such a place on the wire
abbrev pub IsBroughtAt : ChanName → Link → LinkedChans → Option Carried → List LinkEvent → Type 0
IsBroughtAt c l ls None es = es ≡ []
IsBroughtAt c l ls (Some e) es = IsBrought c l ls e es

-- ---- events at hosts

module _ {Proc : Type 0} (language : Language Proc) (c : ChanName) where
  -- what one event at the hosts is at the link of the channel, where the link stands so
  abbrev pub AreOf : Hosts Proc → Link → HostEvent → List LinkEvent → Type 0
  AreOf h l (Step p) es = es ≡ step_events language h p c
  AreOf h l (Send d k) es = es ≡ where_same c d (link.SendPacket k ∷ [])
  AreOf h l (Answer d) es = es ≡ where_same c d (answer_events (finite.get h.channels c))
  AreOf h l (Deliver i) es = IsBroughtAt c l h.channels (slice_get h.wire i) es
  AreOf h l (Lose i) es = es ≡ []
  AreOf h l (Restart stays) es = es ≡ []

  -- what events at the hosts are at the link, one after the other
  abbrev pub AreAllOf : Hosts Proc → Link → List HostEvent → List LinkEvent → Type 0
  AreAllOf h l [] es = es ≡ []
  AreAllOf h l (e ∷ rest) es = (now : List LinkEvent) × (later : List LinkEvent) × AreOf h l e now
      × AreAllOf (happens language h e).hosts (after_all l now) rest later × (es ≡ now ++ later)
