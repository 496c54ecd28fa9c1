-- The processes and channels in memory as a state of the machine of stack code.
-- Source: this profile.
use Rattle.std.specs.Prelude.{ℕ, Option, Some, None, List, length}
use Rattle.fm_net.specs.Machine.{Place, Procs, State}
use Rattle.fm_net.specs.Language.{language_step}
use Rattle.fm_proc_language.specs.Processes.{CodeProc, Ended, Faulted, Joining, Phase, Running, code_language}
use Rattle.fm_proc_events.specs.Phases.{boxed_of}
use Rattle.fm_machine_calls.specs.declared.looking.Look.{Look}
use Rattle.fm_machine_instr.specs.declared.work.Work.{Work}
use Rattle.fm_net_procs.specs.declared.entries.Actor.{Actor}
use Rattle.fm_net_procs.specs.declared.entries.Entries as all
use Rattle.fm_net_procs.specs.declared.entries.Entry as table
use Rattle.fm_net_procs.specs.declared.processes.Processes as run
use Rattle.fm_net_procs.specs.Readings as readings
use Rattle.fm_procs.specs.declared.process.CodeProcess.{CodeProcess}

abbrev pub code_of : CodeProcess → CodeProc
code_of x = boxed_of x.held

-- the block whose children a process in this phase waits for, and how many they are
abbrev pub awaited_in : Phase → Option (ℕ × ℕ)
awaited_in Running = None
awaited_in (Joining block kids) = Some (block, length kids)
awaited_in Ended = None
awaited_in (Faulted line fault) = None

abbrev pub awaits : CodeProc → Option (ℕ × ℕ)
awaits y = awaited_in y.phase

-- a process, and what is kept of it
abbrev pub Entry : Type 0
Entry = table.Entry CodeProcess Look

abbrev pub Entries : Type 0
Entries = all.Entries CodeProcess Look

-- the processes and channels of a run
abbrev pub CodeProcs : Type 0
CodeProcs = run.Processes CodeProcess Look Work

abbrev pub proc_in : Entry → CodeProc
proc_in e = code_of e.process

-- the processes by their paths
abbrev pub procs_of : Entries → Procs CodeProc
procs_of x = readings.procs_of code_of x

-- their places, in the order of their numbers
abbrev pub order_of : Entries → List Place
order_of x = readings.order_of x

abbrev pub actor_place : Actor → Place
actor_place a = readings.actor_place a

-- the number of a process is that of its path
abbrev pub IsActor : Entries → Actor → Type 0
IsActor x a = readings.IsActor x a

abbrev pub state_of : CodeProcs → State CodeProc
state_of s = readings.state_of code_of s

-- the machine of stack code
abbrev pub code_step : State CodeProc → Place → Option (State CodeProc × ℕ)
code_step = language_step code_language
