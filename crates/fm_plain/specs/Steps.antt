-- Steps as the code tells them.
-- Source: this profile.
use Rattle.std.specs.Prelude.{◌≡◌, ◌<◌, ℕ, Option, Some, None, List, [], ◌∷◌, length, Result, Ok, Err}
use Rattle.fm_base.specs.declared.memory.NoMemory.{NoMemory}
use Rattle.fm_base.specs.declared.name.Line.{Line}
use Rattle.fm_base.specs.declared.port.PortValue.{PortValue}
use Rattle.fm_rules.specs.declared.program.Program.{Program}
use Rattle.fm_mean.specs.Process.{Execution, Frame, Running, Proc, framed}
use Rattle.fm_mean.specs.Actions as mean
use Rattle.fm_mean.specs.Actions.{Action, Own, Meets, at_entry, gone_on}
use Rattle.fm_mean.specs.Evaluate.{Reference, Element, Call, Built, Unknown}
use Rattle.fm_plain_frame.specs.LetGo.{let_go_ports}
use Rattle.fm_plain_eval.specs.declared.failure.Failure.{Failure}
use Rattle.fm_plain_eval.specs.declared.failure.Failure.TheVariants as failure
use Rattle.fm_plain.specs.declared.event.Event.TheVariants as event
use Rattle.fm_plain.specs.declared.step.Step.{Step}
use Rattle.fm_plain.specs.declared.step.Step.TheVariants as step
use Rattle.fm_plain.specs.declared.local.Acted.{Acted}
use Rattle.fm_plain.specs.declared.local.Acted.TheVariants as acted
use Rattle.fm_plain.specs.Events.{IsEvent}

-- a line is put out, and the innermost frame goes to an entry
abbrev pub puts_out : Execution → List Frame → List ℕ → (cost next : ℕ) → Action
puts_out w [] text cost next = mean.Rest
puts_out w (f ∷ below) text cost next = Own (framed w (at_entry f next ∷ below)) (text ∷ []) [] cost

-- what the action is, and the frames behind it: others where the step is made, else those that were
abbrev pub IsStep : Program → Execution → Action → List Frame → Step → List Frame → Type 0
IsStep p w a fs (step.Made cost) gs = a ≡ Own (framed w gs) [] [] cost
IsStep p w a fs step.Rest gs = (gs ≡ fs) × (a ≡ mean.Rest)
IsStep p w a fs (step.Event e) gs = (gs ≡ fs) × IsEvent Running a e
IsStep p w a fs (step.LetsGo l cost) gs = (a ≡ Own (framed w gs) [] (let_go_ports p l) cost) × (0 < length (let_go_ports p l))
IsStep p w a fs (step.Prints text cost next) gs = (gs ≡ fs) × (a ≡ puts_out w fs text cost next)

-- a fault is the step's event; want of memory is answered
abbrev pub IsFailed : Line → Failure → Result Step NoMemory → Type 0
IsFailed line (failure.Fault fault) r = r ≡ Ok (step.Event (event.Fail line fault))
IsFailed line failure.NoMemory r = r ≡ Err (record {})

-- a process that runs with these frames, and has put out these lines
abbrev pub runs_with : Proc → List Frame → List (List ℕ) → Proc
runs_with x fs lines = record x { phase = Running; execution = framed x.execution fs; lines = lines }

-- the number of the FUNCTION that a reference means
abbrev pub called_in : Reference → Option ℕ
called_in (Element i v) = None
called_in (Call n u) = Some n
called_in (Built f) = None
called_in Unknown = None

-- the process after its own step, what it lets go, and the cost
abbrev pub own_in : Proc → Action → Option (Proc × List PortValue × ℕ)
own_in x mean.Rest = None
own_in x (Own w lines drops cost) = Some (gone_on x w lines, drops, cost)
own_in x (Meets e) = None

-- the process made its own step, or it is as it was
abbrev pub IsActed : Program → Action → (before : Proc) → Acted → (after : Proc) → Type 0
IsActed p a x (acted.Done cost) y = own_in x a ≡ Some (y, [], cost)
IsActed p a x acted.Rest y = (y ≡ x) × (a ≡ mean.Rest)
IsActed p a x (acted.Event e) y = (y ≡ x) × IsEvent x.phase a e
IsActed p a x (acted.LetsGo l cost) y = (own_in x a ≡ Some (y, let_go_ports p l, cost)) × (0 < length (let_go_ports p l))
