-- What a state of processes of stack code shows in the end, whatever code they run. What the variables of main show is told by who
-- knows their names.
-- Source: this profile.
use Rattle.std.specs.Prelude.{ℕ, zero, suc, ℤ, Bool, false, cond, Option, Some, None, option_map, option_to_list, List, [], ◌∷◌, map}
use Rattle.std.specs.List.{flat_map}
use Rattle.std.specs.FinMap.{get, entries, from_entries}
use Rattle.fm_base.specs.declared.path.ChanName.{ChanName}
use Rattle.fm_base.specs.Channels.{channel_of}
use Rattle.fm_net.specs.Machine.{Place, Procs, State, Need, Nothing, Event, New, Children, child}
use Rattle.fm_mean.specs.declared.outcome.At.{At}
use Rattle.fm_mean.specs.declared.outcome.At.TheVariants as at
use Rattle.fm_mean.specs.declared.outcome.FaultAt.{FaultAt}
use Rattle.fm_mean.specs.declared.outcome.Holder.{Holder}
use Rattle.fm_mean.specs.declared.outcome.Outcome.{Outcome}
use Rattle.fm_mean.specs.declared.outcome.OutputLine.{OutputLine}
use Rattle.fm_mean.specs.declared.outcome.ShownVariable.{ShownVariable}
use Rattle.fm_mean.specs.declared.outcome.Wait.{Wait}
use Rattle.fm_mean.specs.declared.outport.Outport.{Outport}
use Rattle.fm_mean.specs.Holders.{starter, holding, holder_of}
use Rattle.fm_mean.specs.Outcome.{waits_at}
use Rattle.fm_mean.specs.Outports.{outport_cmp}
use Rattle.fm_code.specs.declared.body.Body.{Body}
use Rattle.fm_code.specs.declared.body.Frame.{Frame}
use Rattle.fm_code.specs.Statements.{line_of}
use Rattle.fm_gen_relation.specs.Standing.{port_by}
use Rattle.fm_proc_language.specs.Slots.{Slots, port_in}
use Rattle.fm_proc_language.specs.Processes.{Phase, Running, Joining, Ended, Faulted, CodeProc, has_ended, held}
use Rattle.fm_proc_language.specs.Needs.{need_of}

-- Output.

abbrev pub lines_at : Place × CodeProc → List OutputLine
lines_at e = map (λ line. record { path = e.0; bytes = line }) e.1.lines

-- Faults.

abbrev pub fault_in : Place → Phase → List FaultAt
fault_in place Running = []
fault_in place (Joining block kids) = []
fault_in place Ended = []
fault_in place (Faulted line fault) = record { path = place; line = record { 0 = line }; fault = fault } ∷ []

abbrev pub fault_at : Place × CodeProc → List FaultAt
fault_at e = fault_in e.0 e.1.phase

-- Waits.

abbrev pub ended_at : Option CodeProc → Bool
ended_at None = false
ended_at (Some y) = has_ended y

-- the first of so many children of a block, from this index on, that hasn't ended
abbrev pub awaited : Procs CodeProc → Place → (block index count : ℕ) → Option Place
awaited m q b i zero = None
awaited m q b i (suc n) = cond (ended_at (get m (child q b i))) (awaited m q b (suc i) n) (Some (child q b i))

-- a process that receives waits for a message of the channel, and one that joins for a child
abbrev pub waits_by : Procs CodeProc → Place → Option Need → Option At
waits_by m q None = None
waits_by m q (Some Nothing) = None
waits_by m q (Some (Event c a)) = waits_at c a
waits_by m q (Some (New n writers)) = None
waits_by m q (Some (Children b n)) = option_map at.Join (awaited m q b 1 n)

-- the line at which a process stands
abbrev pub line_in : Option Body → ℕ
line_in None = 0
line_in (Some b) = line_of b

abbrev pub wait_at : Procs CodeProc → Place × CodeProc → List Wait
wait_at m e = map (λ at. record { path = e.0; line = record { 0 = line_in e.1.body }; at = at }) (option_to_list (waits_by m e.0 (need_of e.1)))

-- Holders.

-- who holds what stands with a process: itself, and where it has ended, the one that started it
abbrev pub holder_path : Place × CodeProc → Place
holder_path e = cond (has_ended e.1) (starter e.0) e.0

-- the outports in a process's variables and in its starts that wait
abbrev pub holdings_at : Place × CodeProc → List (Outport × Place)
holdings_at e = flat_map (holding (holder_path e)) (held e.1)

-- those of all processes, in path order
abbrev pub holdings : Procs CodeProc → List (Outport × Place)
holdings m = flat_map holdings_at (entries m)

-- the holders in the order of the outports. An outport is held once; of two holders the first would count
abbrev pub holders_by : State CodeProc → List Holder
holders_by t = map holder_of (entries (from_entries {R = outport_cmp} (holdings t.procs)))

-- Variables.

-- the frame of the process itself, below those of calls
abbrev pub own_frame : Frame → List Frame → Frame
own_frame m [] = m
own_frame m (n ∷ ns) = own_frame n ns

-- the channels of port words, none where one is NULL
abbrev pub channels_in : Slots → List ℤ → List (Option ChanName)
channels_in s ws = map (option_map channel_of) (map (port_by (port_in s)) ws)

-- All.

-- what a state shows that was reached at this cost, where the variables of main show this: output, faults and waits in path order,
-- and who holds the open writers
abbrev pub outcome_with : (variables : List ShownVariable) → (used : ℕ) → State CodeProc → Outcome
outcome_with variables used t = record {
  lines = flat_map lines_at (entries t.procs);
  variables = variables;
  faults = flat_map fault_at (entries t.procs);
  waits = flat_map (wait_at t.procs) (entries t.procs);
  holders = holders_by t;
  main_ended = ended_at (get t.procs []);
  used = used;
}
