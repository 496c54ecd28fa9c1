-- How a process goes on with its event: itself, its children, the channels, the ports and the cost.
-- Source: this profile.
use Rattle.std.specs.Prelude.{◌≡◌, ℕ, Bool, true, false, is_some, Option, Some, None, List, [], ◌++◌, map}
use Rattle.std.specs.FinMap.{get, insert}
use Rattle.fm_base.specs.declared.path.ChanName.{ChanName}
use Rattle.fm_base.specs.Channels.{Chans, all_shed}
use Rattle.fm_finmap.specs.Changes.{Change}
use Rattle.fm_net.specs.Machine.{Place, Need, Nothing, Event, New, Children, Reply, Onward, Go, Procs, reply_with, made, chans_after, spilt, served_at, gathered, child_changes}
use Rattle.fm_rules.specs.declared.program.Program.{Program}
use Rattle.fm_net.specs.Owned.{name_of}
use Rattle.fm_mean.specs.Actions.{action_of}
use Rattle.fm_mean.specs.Outcome.{need_of}
use Rattle.fm_mean.specs.Process.{Proc, has_ended, emptied}
use Rattle.fm_mean.specs.Steps.{ask}
use Rattle.fm_plain.specs.declared.event.Event as plain
use Rattle.fm_plain.specs.declared.event.Event.TheVariants as event
use Rattle.fm_plain.specs.Events.{IsEvent}
use Rattle.fm_plain_net.specs.declared.ports.Ports.{Ports}
use Rattle.fm_plain_replies.specs.declared.joining.Ended.{Ended}
use Rattle.fm_plain_replies.specs.Joins.{after_join, frames_in, left_frames}
use Rattle.fm_plain_net.specs.Held.{Carries, MayDrop, MayGoOn, StayBut, came_by, left_by}

-- the channels serve the need
abbrev pub is_served : Chans → Option Need → Bool
is_served m None = false
is_served m (Some Nothing) = true
is_served m (Some (Event c a)) = is_some (served_at {Proc = Proc} a (get m c))
is_served m (Some (New n writers)) = true
is_served m (Some (Children b n)) = true

-- the block that a process joins by its need, and the number of its children
abbrev pub joined_in : Option Need → Option (ℕ × ℕ)
joined_in None = None
joined_in (Some Nothing) = None
joined_in (Some (Event c a)) = None
joined_in (Some (New n writers)) = None
joined_in (Some (Children b n)) = Some (b, n)

-- and by its event, with the entry behind
abbrev pub joined_by : plain.Event → Option (ℕ × ℕ × ℕ)
joined_by (event.Fail line fault) = None
joined_by (event.Make places writers cost next) = None
joined_by (event.Send channel writer items next) = None
joined_by (event.Receive channel line items iostat at_end next) = None
joined_by (event.Probe channel empty next) = None
joined_by event.Begin = None
joined_by (event.Join block count next) = Some (block, count, next)
joined_by event.End = None

-- whether it is a join
abbrev pub is_join : plain.Event → Bool
is_join e = is_some (joined_by e)

-- a process stands at this event
abbrev pub MeetsIt : Program → Proc → plain.Event → Type 0
MeetsIt program x e = IsEvent x.phase (action_of program x) e

-- the children that are joined, where all have ended
abbrev pub kids_by : Procs Proc → Place → Option (ℕ × ℕ) → Option (List Proc)
kids_by m p None = Some []
kids_by m p (Some bn) = gathered has_ended m p bn.0 1 bn.1

-- what becomes of them
abbrev pub collected : Place → Option (ℕ × ℕ) → List (Change Place Proc)
collected p None = []
collected p (Some bn) = child_changes emptied p bn.0 1 bn.1

-- the reply to a need, where these are the children that are joined
abbrev pub Replies : Chans → (kids : List Proc) → Need → Reply Proc → Type 0
Replies m kids Nothing r = r ≡ reply_with []
Replies m kids (Event c a) r = served_at a (get m c) ≡ Some r
Replies m kids (New n writers) r = r ≡ reply_with []
Replies m kids (Children b n) r = r ≡ reply_with kids

-- the process, its children, the channels after the event, and the cost
pub record GoesOn (place : Place) (before : Chans) (need : Need) (o : Onward Proc) (after : Proc) (starts : List Proc) (chans : Chans) (cost : ℕ) : Type 0 where
  pub self_is : after ≡ o.self
  pub starts_are : starts ≡ o.starts
  pub chans_are : chans ≡ all_shed (o.drops ++ spilt need before) (chans_after place need before)
  pub cost_is : cost ≡ o.cost

-- the process did what it asked for
pub record Performs (program : Program) (place : Place) (x : Proc) (before : Chans) (kids : List Proc) (ports : Ports) (after : Proc) (starts : List Proc) (chans : Chans) (later : Ports) (cost : ℕ) : Type 0 where
  pub need : Need
  pub going : ChanName → Reply Proc → Onward Proc
  pub reply : Reply Proc
  pub asks : ask program x ≡ Go need going
  pub replies : Replies before kids need reply
  pub block_is : (going (made place need) reply).block ≡ x.next_block
  pub goes : GoesOn place before need (going (made place need) reply) after starts chans cost
  pub carries : Carries (came_by place need reply) (left_by need (going (made place need) reply)) ports later

-- what the process may take out of the kept ports with its event
abbrev pub MayPerform : Program → Place → Proc → Chans → (kids : List Proc) → Ports → Type 0
MayPerform program place x before kids ports = (need : Need) (going : ChanName → Reply Proc → Onward Proc) (r : Reply Proc) → ask program x ≡ Go need going → Replies before kids need r
    → MayGoOn ports place need r (going (made place need) r)

-- a process can do what it asks for
pub record CanPerform (program : Program) (place : Place) (x : Proc) (before : Chans) (kids : List Proc) (ports : Ports) : Type 0 where
  pub ready : is_served before (need_of program x) ≡ true
  -- no channel has the name of its next one
  pub absent : get before (name_of place x.next_channel) ≡ None
  pub may : MayPerform program place x before kids ports

-- a process can join children that left these frames
pub record CanJoin (program : Program) (x : Proc) (next : ℕ) (left : List Ended) (ports : Ports) : Type 0 where
  pub kids : List Proc
  pub frames : map frames_in kids ≡ map (left_frames program) left
  pub drops : MayDrop ports [] (after_join x next kids).drops

-- a process goes on with children that it joined
pub record Joins (x : Proc) (next : ℕ) (kids : List Proc) (ports : Ports) (before : Chans) (after : Proc) (chans : Chans) (later : Ports) (cost : ℕ) : Type 0 where
  pub self_is : after ≡ (after_join x next kids).self
  pub chans_are : chans ≡ all_shed (after_join x next kids).drops before
  pub carries : StayBut (after_join x next kids).drops ports later
  pub cost_is : cost ≡ (after_join x next kids).cost

-- and it alone changed, beside the channels
pub record JoinsAt (place : Place) (x : Proc) (next : ℕ) (kids : List Proc) (ports : Ports) (before : Chans) (old new : Procs Proc) (chans : Chans) (later : Ports) (cost : ℕ) : Type 0 where
  pub after : Proc
  pub joins : Joins x next kids ports before after chans later cost
  pub procs_are : new ≡ insert old place after
