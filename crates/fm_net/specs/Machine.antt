-- Processes over channels, each of which asks for what it needs and goes on with the reply.
-- Source: the Fortran M report (processes, channels, process blocks), with this profile's atomic step.
use Rattle.std.specs.Prelude.{ℕ, zero, suc, Option, Some, None, List, [], ◌∷◌, ◌++◌, Bool, false, cond, option_map}
use Rattle.std.specs.FinMap.{FinMap, get, insert}
use Rattle.fm_base.specs.declared.path.ChanName.{ChanName}
use Rattle.fm_base.specs.declared.port.PortValue.{PortValue}
use Rattle.fm_base.specs.PathOrder.{path_cmp}
use Rattle.fm_base.specs.Channels.{Message, Chan, Chans, ChannelOp, is_ready, changed, gives, exceeds, tells, spills_at, fresh, all_shed}
use Rattle.fm_finmap.specs.Changes.{Change, adjust, alters}

-- where a process stands in the tree of processes
abbrev pub Place : Type 0
Place = List (ℕ × ℕ)

-- what a process has to get before it goes on: nothing; an event at a channel; a channel with this
-- number and so many writers; all children of a block with this number, of which there are so many
pub data Need : Type 0 where
  Nothing : Need
  Event : (channel : ChanName) → (op : ChannelOp) → Need
  New : (number writers : ℕ) → Need
  Children : (block count : ℕ) → Need

-- what it gets: the message, if one came; whether a message is there that exceeds the limits of its
-- receive, and so stays; whether a receive would wait, if it looked; and the children that have ended
pub record Reply (Proc : Type 0) : Type 0 where
  pub message : Option Message
  pub exceeds : Bool
  pub waits : Bool
  pub children : List Proc

-- how it goes on: itself, the children that it starts in the block with this number, the ports that
-- it lets go, and the cost
pub record Onward (Proc : Type 0) : Type 0 where
  pub self : Proc
  pub block : ℕ
  pub starts : List Proc
  pub drops : List PortValue
  pub cost : ℕ

-- what a process does next: nothing more, or what it needs and how it goes on with the reply. The
-- name is that of the channel that it makes, where it makes one
pub data Ask (Proc : Type 0) : Type 0 where
  Stop : Ask Proc
  Go : Need → (ChanName → Reply Proc → Onward Proc) → Ask Proc

abbrev pub Procs : Type 0 → Type 0
Procs Proc = FinMap path_cmp Proc

-- the processes by their paths, and the channels by their names
pub record State (Proc : Type 0) : Type 0 where
  pub procs : Procs Proc
  pub chans : Chans

-- children of a block are counted from 1
abbrev pub child : Place → ℕ → ℕ → Place
child p b i = p ++ (b, i) ∷ []

-- the channel that is made
abbrev pub made : Place → Need → ChanName
made p Nothing = record { maker = p; number = 0 }
made p (Event c a) = record { maker = p; number = 0 }
made p (New n k) = record { maker = p; number = n }
made p (Children b n) = record { maker = p; number = 0 }

abbrev pub chans_after : Place → Need → Chans → Chans
chans_after p Nothing m = m
chans_after p (Event c a) m = adjust m c (changed a)
chans_after p (New n k) m = insert m (record { maker = p; number = n }) (fresh k)
chans_after p (Children b n) m = m

abbrev pub spilt : Need → Chans → List PortValue
spilt Nothing m = []
spilt (Event c a) m = spills_at a (get m c)
spilt (New n k) m = []
spilt (Children b n) m = []

-- a step before its discards
pub record Begun (Proc : Type 0) : Type 0 where
  pub procs : Procs Proc
  pub chans : Chans
  pub drops : List PortValue
  pub cost : ℕ

abbrev pub finished : {Proc : Type 0} → Begun Proc → State Proc × ℕ
finished b = (record { procs = b.procs; chans = all_shed b.drops b.chans }, b.cost)

module _ {Proc : Type 0} where
  -- the reply that brings these children alone
  abbrev pub reply_with : List Proc → Reply Proc
  reply_with ys = record { message = None; exceeds = false; waits = false; children = ys }

  -- the reply to an event at this channel
  abbrev pub reply_at : ChannelOp → Chan → Reply Proc
  reply_at a ch = record { message = gives a ch; exceeds = exceeds a ch; waits = tells a ch; children = [] }

  abbrev pub served_at : ChannelOp → Option Chan → Option (Reply Proc)
  served_at a None = None
  served_at a (Some ch) = cond (is_ready a ch) (Some (reply_at a ch)) None

  abbrev pub start_changes : Place → ℕ → ℕ → List Proc → List (Change Place Proc)
  start_changes p b i [] = []
  start_changes p b i (x ∷ xs) = (child p b i, λ o. Some x) ∷ start_changes p b (suc i) xs

module _ {Proc : Type 0} (has_ended : Proc → Bool) where
  abbrev pub with_child : Option Proc → Option (List Proc) → Option (List Proc)
  with_child None xs = None
  with_child (Some x) xs = cond (has_ended x) (option_map (λ ys. x ∷ ys) xs) None

  -- so many children of the block from this index on, if all have ended
  abbrev pub gathered : Procs Proc → Place → (block index count : ℕ) → Option (List Proc)
  gathered m p b i zero = Some []
  gathered m p b i (suc n) = with_child (get m (child p b i)) (gathered m p b (suc i) n)

  -- the reply to a need, or none where the process has to wait
  abbrev pub served : Procs Proc → Chans → Place → Need → Option (Reply Proc)
  served m cs p Nothing = Some (reply_with [])
  served m cs p (Event c a) = served_at a (get cs c)
  served m cs p (New n k) = Some (reply_with [])
  served m cs p (Children b n) = option_map reply_with (gathered m p b 1 n)

module _ {Proc : Type 0} (emptied : Proc → Proc) where
  abbrev pub child_changes : Place → (block index count : ℕ) → List (Change Place Proc)
  child_changes p b i zero = []
  child_changes p b i (suc n) = (child p b i, option_map emptied) ∷ child_changes p b (suc i) n

  -- the children that were joined keep no ports
  abbrev pub need_changes : Place → Need → List (Change Place Proc)
  need_changes p Nothing = []
  need_changes p (Event c a) = []
  need_changes p (New n k) = []
  need_changes p (Children b n) = child_changes p b 1 n

  -- all that a step changes among the processes: itself, the children that it starts, and those that it joins
  abbrev pub changes : Place → Need → Onward Proc → List (Change Place Proc)
  changes p need o = (p, λ x. Some o.self) ∷ (start_changes p o.block 1 o.starts ++ need_changes p need)

  abbrev pub going : Procs Proc → Chans → Place → Need → Onward Proc → Begun Proc
  going m cs p need o = record { procs = alters (changes p need o) m; chans = chans_after p need cs; drops = o.drops ++ spilt need cs; cost = o.cost }

module _ {Proc : Type 0} (ask : Proc → Ask Proc) (has_ended : Proc → Bool) (emptied : Proc → Proc) where
  abbrev pub act : Procs Proc → Chans → Place → Ask Proc → Option (Begun Proc)
  act m cs p Stop = None
  act m cs p (Go need f) = option_map (λ r. going emptied m cs p need (f (made p need) r)) (served has_ended m cs p need)

  abbrev pub act_of : Procs Proc → Chans → Place → Option Proc → Option (Begun Proc)
  act_of m cs p None = None
  act_of m cs p (Some x) = act m cs p (ask x)

  abbrev pub begun : State Proc → Place → Option (Begun Proc)
  begun s p = act_of s.procs s.chans p (get s.procs p)

  -- the state after the step of the process at this path, with its cost, or none where it can't step
  abbrev pub machine_step : State Proc → Place → Option (State Proc × ℕ)
  machine_step s p = option_map finished (begun s p)
