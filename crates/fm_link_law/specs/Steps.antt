-- The step of a process on what has arrived.
-- Source: this profile, after the machine of processes over channels.
use Rattle.std.specs.Prelude.{◌≡◌, ◌≤◌, ℕ, Bool, true, false, not, cond, Option, Some, None, option_map, List, [], ◌∷◌, map}
use Rattle.std.specs.FinMap as finite
use Rattle.fm_base.specs.declared.path.ChanName.{ChanName}
use Rattle.fm_base.specs.declared.port.PortValue.{PortValue}
use Rattle.fm_base.specs.declared.port.PortValue.TheVariants.{Writer, Reader}
use Rattle.fm_base.specs.Channels.{Words, ChannelOp, Push, Pop, Look, Limits, fits_limits}
use Rattle.fm_finmap.specs.Changes.{adjust, alters}
use Rattle.fm_net.specs.Machine.{Place, Procs, Need, Nothing, Event, New, Children, Reply, Onward, Ask, Stop, Go, made, reply_with, gathered, changes}
use Rattle.fm_net.specs.Language.{Language}
use Rattle.fm_net.specs.Owned.{name_of}
use Rattle.fm_link.specs.declared.load.Load.{Load}
use Rattle.fm_link.specs.declared.load.Load.TheVariants as load
use Rattle.fm_link.specs.Ends.{first_of}
use Rattle.fm_link_law.specs.Loads.{AreWords}
use Rattle.fm_link_law.specs.Channels.{LinkedChan, LinkedChans, new_linked, op_done, shut_port, shut_ports}
use Rattle.fm_link_law.specs.Hosts.{Hosts}

module _ {Proc : Type 0} where
  -- the reply to a receive: the message that has arrived, if it is within the limits, or the end, or none where
  -- nothing has arrived
  abbrev pub reply_to_receive : Limits → Option Load → Option (Reply Proc)
  reply_to_receive limits None = None
  reply_to_receive limits (Some (load.Words ws)) = Some (record {
    message = cond (fits_limits limits (map Words ws)) (Some (map Words ws)) None;
    exceeds = not (fits_limits limits (map Words ws));
    waits = false;
    children = [];
  })
  reply_to_receive limits (Some load.Close) = Some (reply_with [])

  -- the reply to an operation at a channel, or none where the process has to wait. Nobody looks whether a message is
  -- there
  abbrev pub served_by : ChannelOp → LinkedChan → Option (Reply Proc)
  served_by (Push w m) l = Some (reply_with [])
  served_by (Pop limits) l = reply_to_receive limits (first_of l.incoming)
  served_by Look l = None

  -- where the channel is there
  abbrev pub served_there : ChannelOp → Option LinkedChan → Option (Reply Proc)
  served_there a None = None
  served_there a (Some l) = served_by a l

module _ {Proc : Type 0} (has_ended : Proc → Bool) where
  -- the reply to a need on what has arrived, or none where the process has to wait
  abbrev pub served_here : Procs Proc → LinkedChans → Place → Need → Option (Reply Proc)
  served_here m ls p Nothing = Some (reply_with [])
  served_here m ls p (Event c a) = served_there a (finite.get ls c)
  served_here m ls p (New n k) = Some (reply_with [])
  served_here m ls p (Children b n) = option_map reply_with (gathered has_ended m p b 1 n)

-- the channels after what a process needed is done
abbrev pub linked_after : Place → Need → LinkedChans → LinkedChans
linked_after p Nothing ls = ls
linked_after p (Event c a) ls = adjust ls c (op_done a)
linked_after p (New n k) ls = finite.insert ls (name_of p n) (new_linked k)
linked_after p (Children b n) ls = ls

module _ {Proc : Type 0} (language : Language Proc) (h : Hosts Proc) (p : Place) where
  -- the hosts after a process went on, and the cost
  abbrev pub going_on : Need → Onward Proc → Hosts Proc × ℕ
  going_on need o = (record { procs = alters (changes language.emptied p need o) h.procs; channels = shut_ports o.drops (linked_after p need h.channels); wire = h.wire }, o.cost)

  -- what the ask of a process makes of the hosts
  abbrev pub act_here : Ask Proc → Option (Hosts Proc × ℕ)
  act_here Stop = None
  act_here (Go need f) = option_map (λ r. going_on need (f (made p need) r)) (served_here language.has_ended h.procs h.channels p need)

  -- where there is a process
  abbrev pub act_at : Option Proc → Option (Hosts Proc × ℕ)
  act_at None = None
  act_at (Some x) = act_here (language.ask x)

  -- the step of the process at this place on what has arrived, with its cost, or none
  abbrev pub hosts_step : Option (Hosts Proc × ℕ)
  hosts_step = act_at (finite.get h.procs p)

-- ---- what plain programs ask for

-- a message of words goes to an open writer, and a receive is of an inport that lives
abbrev pub IsPlainOp : Option LinkedChan → ChannelOp → Type 0
IsPlainOp o (Push w m) = AreWords m × ((l : LinkedChan) → o ≡ Some l → l.is_open ≡ true)
IsPlainOp o (Pop limits) = (l : LinkedChan) → o ≡ Some l → l.lives ≡ true
IsPlainOp o Look = ⊥

-- what is needed is plain
abbrev pub IsPlainNeed : LinkedChans → Place → Need → Type 0
IsPlainNeed ls p Nothing = Unit {0}
IsPlainNeed ls p (Event c a) = IsPlainOp (finite.get ls c) a
IsPlainNeed ls p (New n k) = (k ≤ 1) × (finite.get ls (name_of p n) ≡ None)
IsPlainNeed ls p (Children b n) = Unit {0}

-- the writers that are let go are open, each in its turn
abbrev pub IsOpenPort : LinkedChans → PortValue → Type 0
IsOpenPort ls (Writer c w) = (w ≡ 0) × ((l : LinkedChan) → finite.get ls c ≡ Some l → l.is_open ≡ true)
IsOpenPort ls (Reader c) = Unit {0}

-- so of all of them
abbrev pub AreOpen : LinkedChans → List PortValue → Type 0
AreOpen ls [] = Unit {0}
AreOpen ls (z ∷ zs) = IsOpenPort ls z × AreOpen (shut_port z ls) zs

module _ {Proc : Type 0} (language : Language Proc) (h : Hosts Proc) (p : Place) where
  -- what a process does next is plain
  abbrev pub IsPlainAsk : Ask Proc → Type 0
  IsPlainAsk Stop = Unit {0}
  IsPlainAsk (Go need f) = IsPlainNeed h.channels p need
      × ((r : Reply Proc) → served_here language.has_ended h.procs h.channels p need ≡ Some r → AreOpen (linked_after p need h.channels) (f (made p need) r).drops)

  -- whoever is at this place
  abbrev pub IsPlainAt : Type 0
  IsPlainAt = (x : Proc) → finite.get h.procs p ≡ Some x → IsPlainAsk (language.ask x)

-- a receive whose message hasn't arrived
pub record IsAwaiting {Proc : Type 0} (language : Language Proc) (h : Hosts Proc) (p : Place) : Type 0 where
  pub self : Proc
  pub is : finite.get h.procs p ≡ Some self
  pub channel : ChanName
  pub limits : Limits
  pub goes : ChanName → Reply Proc → Onward Proc
  pub asks : language.ask self ≡ Go (Event channel (Pop limits)) goes
  pub linked : LinkedChan
  pub there : finite.get h.channels channel ≡ Some linked
  pub nothing : first_of linked.incoming ≡ None
