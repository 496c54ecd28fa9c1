-- What a state of processes shows in the end.
-- Source: this profile.
use Rattle.std.specs.Prelude.{ℕ, zero, suc, Bool, false, cond, Option, Some, None, option_map, option_to_list, List, [], ◌∷◌, map}
use Rattle.std.specs.List.{flat_map}
use Rattle.std.specs.FinMap.{get, entries}
use Rattle.fm_base.specs.declared.path.ChanName.{ChanName}
use Rattle.fm_base.specs.Channels.{Item, ChannelOp, Push, Pop, Look, channel_of}
use Rattle.fm_values.specs.Values.{is_truth}
use Rattle.fm_tree.specs.declared.port_type.Kind.{Kind}
use Rattle.fm_tree.specs.declared.port_type.Kind.TheVariants as kind
use Rattle.fm_symbols.specs.ByName.{first_of_each}
use Rattle.fm_symbols.specs.declared.names.Variable.{Variable}
use Rattle.fm_net.specs.Machine.{Place, Procs, State, Need, Nothing, Event, New, Children, Ask, Stop, Go, child}
use Rattle.fm_rules.specs.declared.program.Program.{Program}
use Rattle.fm_mean.specs.declared.outcome.At.{At}
use Rattle.fm_mean.specs.declared.outcome.At.TheVariants as at
use Rattle.fm_mean.specs.declared.outcome.FaultAt.{FaultAt}
use Rattle.fm_mean.specs.declared.outcome.Outcome.{Outcome}
use Rattle.fm_mean.specs.declared.outcome.OutputLine.{OutputLine}
use Rattle.fm_mean.specs.declared.outcome.Shown.{Shown}
use Rattle.fm_mean.specs.declared.outcome.Shown.TheVariants as shown
use Rattle.fm_mean.specs.declared.outcome.ShownVariable.{ShownVariable}
use Rattle.fm_mean.specs.declared.outcome.Wait.{Wait}
use Rattle.fm_mean.specs.Holders.{holders_of}
use Rattle.fm_mean.specs.Names.{ProgramUnit, Point, unit_at, point_at, line_of}
use Rattle.fm_mean.specs.Places.{words_in, ports_in}
use Rattle.fm_mean.specs.Process.{Frame, Phase, Running, Joining, Ended, Faulted, Proc, has_ended}
use Rattle.fm_mean.specs.Calls.{variables_in}
use Rattle.fm_mean.specs.Steps.{ask}

abbrev pub lines_at : Place × Proc → List OutputLine
lines_at e = map (λ line. record { path = e.0; bytes = line }) e.1.lines

abbrev pub fault_in : Place → Phase → List FaultAt
fault_in place Running = []
fault_in place (Joining block calls) = []
fault_in place Ended = []
fault_in place (Faulted line fault) = record { path = place; line = record { 0 = line }; fault = fault } ∷ []

abbrev pub fault_at : Place × Proc → List FaultAt
fault_at e = fault_in e.0 e.1.phase

abbrev pub ended_at : Option Proc → Bool
ended_at None = false
ended_at (Some x) = has_ended x

-- the first of so many children of a block, from this index on, that hasn't ended
abbrev pub awaited : Procs Proc → Place → (block index count : ℕ) → Option Place
awaited m p b i zero = None
awaited m p b i (suc n) = cond (ended_at (get m (child p b i))) (awaited m p b (suc i) n) (Some (child p b i))

-- a process that receives waits for a message of the channel, and one that joins for a child
abbrev pub waits_at : ChanName → ChannelOp → Option At
waits_at c (Push w m) = None
waits_at c (Pop limits) = Some (at.Receive c)
waits_at c Look = None

abbrev pub waits_by : Procs Proc → Place → Option Need → Option At
waits_by m p None = None
waits_by m p (Some Nothing) = None
waits_by m p (Some (Event c a)) = waits_at c a
waits_by m p (Some (New n writers)) = None
waits_by m p (Some (Children b n)) = option_map at.Join (awaited m p b 1 n)

abbrev pub need_in : Ask Proc → Option Need
need_in Stop = None
need_in (Go need f) = Some need

-- what a process needs next
abbrev pub need_of : Program → Proc → Option Need
need_of p x = need_in (ask p x)

-- the line at which a process stands

abbrev pub line_in : Option Point → ℕ
line_in None = 0
line_in (Some e) = line_of e

abbrev pub line_within : Option ProgramUnit → ℕ → ℕ
line_within None n = 0
line_within (Some u) n = line_in (point_at u n)

abbrev pub line_by : Program → List Frame → ℕ
line_by p [] = 0
line_by p (f ∷ below) = line_within (unit_at p f.unit) f.entry

abbrev pub line_at : Program → Proc → ℕ
line_at p x = line_by p x.execution.frames

abbrev pub wait_at : Program → Procs Proc → Place × Proc → List Wait
wait_at p m e = map (λ at. record { path = e.0; line = record { 0 = line_at p e.1 }; at = at }) (option_to_list (waits_by m e.0 (need_of p e.1)))

-- what a variable holds, element after element
abbrev pub shown_by : Kind → Item → Shown
shown_by kind.Integer x = shown.Numbers (words_in x)
shown_by kind.Logical x = shown.Truths (map is_truth (words_in x))
shown_by (kind.In t) x = shown.Ports (map (option_map channel_of) (ports_in x))
shown_by (kind.Out t) x = shown.Ports (map (option_map channel_of) (ports_in x))

abbrev pub shown_variables : List Variable → List Item → List (List ℕ × Shown)
shown_variables [] xs = []
shown_variables (v ∷ vs) [] = []
shown_variables (v ∷ vs) (x ∷ xs) = (v.name, shown_by v.kind x) ∷ shown_variables vs xs

-- in byte order of the names
abbrev pub shown_of : List Variable → List Item → List ShownVariable
shown_of vs xs = map (λ (e : List ℕ × Shown). record { name = e.0; shown = e.1 }) (entries (first_of_each (shown_variables vs xs)))

-- the variables of the process's own frame, below those of calls
abbrev pub own_variables : Program → List Frame → List ShownVariable
own_variables p [] = []
own_variables p (f ∷ []) = shown_of (variables_in (unit_at p f.unit)) f.values
own_variables p (f ∷ g ∷ fs) = own_variables p (g ∷ fs)

abbrev pub shown_all : Program → Option Proc → List ShownVariable
shown_all p None = []
shown_all p (Some x) = own_variables p x.execution.frames

-- what a state shows that was reached at this cost: output, faults and waits in path order, main's variables, and who holds
-- the open writers
abbrev pub outcome_of : Program → (used : ℕ) → State Proc → Outcome
outcome_of p used s = record {
  lines = flat_map lines_at (entries s.procs);
  variables = shown_all p (get s.procs []);
  faults = flat_map fault_at (entries s.procs);
  waits = flat_map (wait_at p s.procs) (entries s.procs);
  holders = holders_of s;
  main_ended = ended_at (get s.procs []);
  used = used;
}
