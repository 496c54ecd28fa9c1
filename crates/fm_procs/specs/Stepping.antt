-- What a step does to the processes of a run.
-- Source: this profile.
use Rattle.std.specs.Prelude.{◌≡◌, ◌≢◌, ◌≤◌, ℕ, Bool, true, false, Option, Some, None, List}
use Rattle.std.specs.FinMap.{insert}
use Rattle.fm_base.specs.Channels.{Chans}
use Rattle.fm_net.specs.Machine.{Place, Procs}
use Rattle.fm_code.specs.declared.ask.Ask.{Ask}
use Rattle.fm_code.specs.declared.ask.Ask.TheVariants as ask
use Rattle.fm_proc_language.specs.Needs.{is_local}
use Rattle.fm_proc_language.specs.Processes.{CodeProc}
use Rattle.fm_procs.specs.declared.advancing.Advanced.{Advanced}
use Rattle.fm_machine_calls.specs.declared.looking.Look.{Look}
use Rattle.fm_machine_calls.specs.declared.looking.Look.TheVariants as look
use Rattle.fm_net_procs.specs.declared.piece.Stop as table
use Rattle.fm_net_procs.specs.declared.piece.Stop.TheVariants as stop
use Rattle.fm_proc_events.specs.Performs.{Joins}
use Rattle.fm_procs.specs.Runs.{Runs}
use Rattle.fm_proc_events.specs.Told.{look_of}

-- the statement behind a join
abbrev pub joined_next : Ask → Option ℕ
joined_next (ask.Fail line fault) = None
joined_next (ask.LetGo slots) = None
joined_next (ask.Channel inport outport next) = None
joined_next (ask.Merger inport outports next) = None
joined_next (ask.Send slot items next) = None
joined_next (ask.Receive slot items status at_end next) = None
joined_next (ask.Probe slot empty next) = None
joined_next (ask.Begin next) = None
joined_next (ask.Join next) = Some next
joined_next ask.End = None

-- the process at a place made statements of its own, and it alone changed
pub record AdvancesAt (slice : ℕ) (place : Place) (y : CodeProc) (a : Advanced) (old new : Procs CodeProc) : Type 0 where
  pub after : CodeProc
  pub runs : Runs y a.steps a.cost after
  pub within : a.steps ≤ slice
  pub next : a.next ≡ look_of after
  pub stops : a.steps ≢ slice → is_local after ≡ false
  pub procs_are : new ≡ insert old place after

-- where a process stops that does this next, and used up its slice with no step to spare, or didn't
abbrev pub stop_of : Look → (is_used_up : Bool) → table.Stop Ask Look
stop_of next true = stop.Pauses next
stop_of look.Goes false = stop.Pauses look.Goes
stop_of (look.Asks k) false = stop.Meets k
stop_of look.Stuck false = stop.Pauses look.Stuck

-- it joined these children, and it alone changed, beside the channels
pub record JoinsAt (place : Place) (y : CodeProc) (children : List CodeProc) (before : Chans) (old new : Procs CodeProc) (chans : Chans) (cost : ℕ) : Type 0 where
  pub after : CodeProc
  pub joins : Joins place y children before after chans cost
  pub procs_are : new ≡ insert old place after
