-- What a state of processes of a program's code shows, and the process with which a program of stack code begins.
-- Source: this profile.
use Rattle.std.specs.Prelude.{ℕ, Option, Some, None, List, []}
use Rattle.std.specs.FinMap.{get}
use Rattle.fm_net.specs.Machine.{State}
use Rattle.fm_rules.specs.declared.program.Program.{Program}
use Rattle.fm_mean.specs.declared.outcome.Outcome.{Outcome}
use Rattle.fm_mean.specs.declared.outcome.ShownVariable.{ShownVariable}
use Rattle.fm_mean.specs.Names.{ProgramUnit, unit_at, main_number}
use Rattle.fm_mean.specs.Outcome.{shown_of}
use Rattle.fm_mean.specs.Calls.{variables_in}
use Rattle.fm_mean.specs.Steps.{nodes_of}
use Rattle.fm_code.specs.declared.body.Body.{Body}
use Rattle.fm_code.specs.declared.body.Frame.{Frame}
use Rattle.fm_code.specs.Passing.{nulls}
use Rattle.fm_code.specs.Statements.{new_frame}
use Rattle.fm_gen_relation.specs.Standing.{values_in}
use Rattle.fm_proc_language.specs.Slots.{Slots, port_in}
use Rattle.fm_proc_language.specs.Processes.{CodeProc}
use Rattle.fm_gen.specs.Units.{unit_of_code}
use Rattle.fm_gen.specs.Programs.{code_of}
use Rattle.fm_shown.specs.First.{process_of}
use Rattle.fm_shown.specs.Outcome.{outcome_with, own_frame}

-- Variables.

-- those of a frame, by the names of its unit
abbrev pub frame_shown : Program → Slots → Frame → List ShownVariable
frame_shown p s m = let vs = variables_in (unit_at p m.unit) in shown_of vs (values_in (port_in s) vs m.words)

-- those of the process itself, below those of calls
abbrev pub body_shown : Program → Slots → Option Body → List ShownVariable
body_shown p s None = []
body_shown p s (Some b) = frame_shown p s (own_frame b.frame b.below)

abbrev pub shown_all : Program → Option CodeProc → List ShownVariable
shown_all p None = []
shown_all p (Some y) = body_shown p y.slots y.body

-- what a state of processes of the program's code shows that was reached at this cost: output, faults and waits in path order,
-- main's variables, and who holds the open writers
abbrev pub outcome_by : Program → (used : ℕ) → State CodeProc → Outcome
outcome_by p used t = outcome_with (shown_all p (get t.procs [])) used t

-- The beginning.

-- the unit at its first statement, with nothing in its words, on the nodes of its PROCESSORS, or one
abbrev pub first_body : Program → (number : ℕ) → ProgramUnit → Body
first_body p n u = record {
  code = code_of p;
  machine = record { first = 0; count = nodes_of u.names.extents };
  node = 0;
  frame = new_frame n (unit_of_code p u) (nulls u.names.words) [];
  below = [];
}

abbrev pub body_in : Program → ℕ → Option ProgramUnit → Option Body
body_in p n None = None
body_in p n (Some u) = Some (first_body p n u)

abbrev pub body_by : Program → Option ℕ → Option Body
body_by p None = None
body_by p (Some n) = body_in p n (unit_at p n)

-- the PROGRAM as a process of stack code
abbrev pub first_process : Program → CodeProc
first_process p = process_of (body_by p (main_number p))
