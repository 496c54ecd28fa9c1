-- The processes in memory, by their paths, as the machine of processes sees them.
-- Source: this profile.
use Rattle.std.specs.Prelude.{◌≡◌, ℕ, Bool, false, Option, Some, None, List}
use Rattle.std.specs.Arc.{arc_value}
use Rattle.fm_finmap.specs.Map.{map_values}
use Rattle.fm_finmap.specs.Rows.{numbered_map, place_at, places, value_at}
use Rattle.fm_chan.specs.Bodies.{chans_of}
use Rattle.fm_net.specs.Machine.{Place, Procs, State}
use Rattle.fm_net_procs.specs.declared.entries.Entry.{Entry}
use Rattle.fm_net_procs.specs.declared.entries.Entries.{Entries}
use Rattle.fm_net_procs.specs.declared.entries.Actor.{Actor}
use Rattle.fm_net_procs.specs.declared.processes.Processes.{Processes}

module _ {P L X : Type 0} (seen : P → X) where
  abbrev pub proc_in : Entry P L → X
  proc_in e = seen e.process

  -- the processes by their paths
  unfoldable pub procs_of : Entries P L → Procs X
  procs_of x = map_values proc_in (numbered_map x.rows)

  -- with the channels, as a state of the machine of processes
  abbrev pub state_of : {W : Type 0} → Processes P L W → State X
  state_of s = record { procs = procs_of s.entries; chans = chans_of s.channels }

-- their places, in the order of their numbers
abbrev pub order_of : {P L : Type 0} → Entries P L → List Place
order_of x = places x.rows

abbrev pub actor_place : Actor → Place
actor_place a = arc_value a.path

-- the number of a process is that of its path
abbrev pub IsActor : {P L : Type 0} → Entries P L → Actor → Type 0
IsActor x a = place_at x.rows a.number ≡ Some (actor_place a)

-- whether one has ended
abbrev pub ended_at : {X : Type 0} → (has_ended : X → Bool) → Option X → Bool
ended_at has_ended None = false
ended_at has_ended (Some y) = has_ended y

abbrev pub over_at : {P L : Type 0} → (over : P → Bool) → Option (Entry P L) → Bool
over_at over None = false
over_at over (Some e) = over e.process

-- whether the process of this number has ended
abbrev pub over_in : {P L : Type 0} → (over : P → Bool) → Entries P L → ℕ → Bool
over_in over x n = over_at over (value_at x.rows n)
