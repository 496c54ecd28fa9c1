-- Events at hosts one after the other, and the steps that were made.
-- Source: this profile.
use Rattle.std.specs.Prelude.{◌≡◌, ◌≤◌, ℕ, ◌+◌, Bool, Option, Some, None, List, [], ◌∷◌, ◌++◌}
use Rattle.std.specs.FinMap.{get}
use Rattle.fm_base.specs.declared.path.ChanName.{ChanName}
use Rattle.fm_sched.specs.Schedule.{IsReached}
use Rattle.fm_base.specs.Channels.{Push, Pop, Look}
use Rattle.fm_net.specs.Machine.{Place, State, Need, Nothing, Event, New, Children, Reply, Onward, Go}
use Rattle.fm_net.specs.Language.{Language, language_step}
use Rattle.fm_link_law.specs.Loads.{AreWords}
use Rattle.fm_link_law.specs.Hosts.{Hosts, Carried, state_of, IsSound, sent, answered, delivered, lost, restarted}
use Rattle.fm_link_law.specs.Steps.{hosts_step, IsPlainAt}

-- what a process may ask for: a message of words is sent, nobody looks, and no channel has a second writer
abbrev pub IsNeedOfWords : Need → Type 0
IsNeedOfWords Nothing = Unit {0}
IsNeedOfWords (Event c (Push w m)) = AreWords m
IsNeedOfWords (Event c (Pop limits)) = Unit {0}
IsNeedOfWords (Event c Look) = ⊥
IsNeedOfWords (New n k) = k ≤ 1
IsNeedOfWords (Children b n) = Unit {0}

-- what may happen: a process steps; the network sends, answers, brings or loses something; or a host starts
-- again, and only what passes a test stays on the wire
pub data HostEvent : Type 0 where
  Step : (place : Place) → HostEvent
  Send : (channel : ChanName) → (place : ℕ) → HostEvent
  Answer : (channel : ChanName) → HostEvent
  Deliver : (place : ℕ) → HostEvent
  Lose : (place : ℕ) → HostEvent
  Restart : (stays : Carried → Bool) → HostEvent

-- what came of an event: the hosts after it, the steps that were made, and their cost
pub record EventEnd (Proc : Type 0) : Type 0 where
  pub hosts : Hosts Proc
  pub steps : List Place
  pub cost : ℕ

module _ {Proc : Type 0} where
  -- no step was made
  abbrev pub still : Hosts Proc → EventEnd Proc
  still h = record { hosts = h; steps = []; cost = 0 }

  -- where there is nothing to do, nothing changes
  abbrev pub came_of : Hosts Proc → Option (Hosts Proc) → EventEnd Proc
  came_of h None = still h
  came_of h (Some later) = still later

  -- where the process had a step, it was made
  abbrev pub stepped_to : Hosts Proc → Place → Option (Hosts Proc × ℕ) → EventEnd Proc
  stepped_to h p None = still h
  stepped_to h p (Some r) = record { hosts = r.0; steps = p ∷ []; cost = r.1 }

module _ {Proc : Type 0} (language : Language Proc) where
  -- what comes of one event
  abbrev pub happens : Hosts Proc → HostEvent → EventEnd Proc
  happens h (Step p) = stepped_to h p (hosts_step language h p)
  happens h (Send c k) = came_of h (sent h c k)
  happens h (Answer c) = came_of h (answered h c)
  happens h (Deliver i) = came_of h (delivered h i)
  happens h (Lose i) = came_of h (lost h i)
  happens h (Restart stays) = still (restarted stays h)

  -- the hosts after events, one after the other
  abbrev pub hosts_after : Hosts Proc → List HostEvent → Hosts Proc
  hosts_after h [] = h
  hosts_after h (e ∷ es) = hosts_after (happens h e).hosts es

  -- the steps that were made, one after the other, and what they cost together
  abbrev pub steps_of : Hosts Proc → List HostEvent → List Place
  steps_of h [] = []
  steps_of h (e ∷ es) = (happens h e).steps ++ steps_of (happens h e).hosts es

  abbrev pub cost_of : Hosts Proc → List HostEvent → ℕ
  cost_of h [] = 0
  cost_of h (e ∷ es) = (happens h e).cost + cost_of (happens h e).hosts es

  -- wherever the meaning comes from this state, what processes ask for is plain
  abbrev pub KeepsToWords : State Proc → Type 0
  KeepsToWords start = (h : Hosts Proc) → IsSound h → IsReached (language_step language) start (state_of h) → (p : Place) → IsPlainAt language h p

  -- wherever the meaning comes from this state, processes ask for such things alone
  abbrev pub AsksForWords : State Proc → Type 0
  AsksForWords start = (s : State Proc) → IsReached (language_step language) start s → (p : Place) (x : Proc) → get s.procs p ≡ Some x
      → (need : Need) (f : ChanName → Reply Proc → Onward Proc) → language.ask x ≡ Go need f → IsNeedOfWords need
