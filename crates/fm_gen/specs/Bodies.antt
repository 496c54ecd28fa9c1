-- How a body stands for a process, and what it means that it does what the process does.
-- Source: this profile.
use Rattle.std.specs.Prelude.{◌≡◌, ℕ, ℤ, Option, Some, None, List, ◌∷◌, length, map}
use Rattle.std.specs.FinMap.{get}
use Rattle.fm_tree.specs.declared.statement.Stmt.TheVariants as stmt
use Rattle.fm_sched.specs.Schedule.{Throughout}
use Rattle.fm_net.specs.Machine.{Place}
use Rattle.fm_rules.specs.declared.program.Program.{Program}
use Rattle.fm_mean.specs.Names.{ProgramUnit, Point, point_at}
use Rattle.fm_mean.specs.Process as mean
use Rattle.fm_mean.specs.Process.{Execution, Kid, Phase, Running, Joining, Ended, Faulted, Proc}
use Rattle.fm_mean.specs.Fits.{Types, IsFine}
use Rattle.fm_mean.specs.Actions as mean_actions
use Rattle.fm_mean.specs.Actions.{Rest, Meets, Join, fails, gone_on}
use Rattle.fm_mean.specs.Steps.{first, step}
use Rattle.fm_code.specs.declared.ask.Ask.{Ask}
use Rattle.fm_code.specs.declared.ask.Ask.TheVariants as ask
use Rattle.fm_code.specs.declared.body.Body.{Body}
use Rattle.fm_code.specs.declared.code.Code.{Code}
use Rattle.fm_code.specs.Statements as code_actions
use Rattle.fm_gen_relation.specs.Standing.{Slots}
use Rattle.fm_gen_relation.specs.Frames.{FrameStands, BelowStand}
use Rattle.fm_gen.specs.Entries.{address_of, statement_address, join_address}
use Rattle.fm_gen.specs.Steps.{AsksAlike}
use Rattle.fm_gen.specs.Kept.{site_at}

-- where the next statement of a process is: at its entry, or at the join of its block
abbrev pub next_address : Program → Phase → mean.Frame → ProgramUnit → ℕ
next_address p Running f u = statement_address p u f.entry (length f.results)
next_address p (Joining block kids) f u = join_address p u f.entry
next_address p Ended f u = 0
next_address p (Faulted line fault) f u = 0

-- a process that joins is at the end of a block
pub record EndsBlock (u : ProgramUnit) (f : mean.Frame) : Type 0 where
  pub point : Point
  pub at : point_at u f.entry ≡ Some point
  pub is : point.entry.stmt ≡ stmt.EndProcesses

-- a process that has more to do
abbrev pub IsAlive : Phase → ProgramUnit → mean.Frame → Type 0
IsAlive Running u f = Unit {0}
IsAlive (Joining block kids) u f = EndsBlock u f
IsAlive Ended u f = ⊥
IsAlive (Faulted line fault) u f = ⊥

-- A body of this code stands for a process that has more to do, frame by frame.
pub record StandsFor (p : Program) (code : Code) (slots : Slots) (x : Proc) (b : Body) : Type 0 where
  pub frame : mean.Frame
  pub below : List mean.Frame
  pub frames : x.execution.frames ≡ frame ∷ below
  pub loaded : b.code ≡ code
  pub machine : b.machine ≡ x.execution.machine
  pub node : b.node ≡ x.execution.node
  pub first : FrameStands p slots (next_address p x.phase frame) frame b.frame
  pub others : BelowStand p (statement_address p) slots frame b.frame below b.below
  pub alive : IsAlive x.phase first.unit frame

-- A step of the process alone: of the same lines, ports let go and cost, and the body after it stands for the process after it.
pub record StepsAlike (p : Program) (code : Code) (slots : Slots) (x : Proc) (after : Body) (lines : List (List ℕ)) (drops : List ℤ) (cost : ℕ) (a : mean_actions.Action) : Type 0 where
  pub execution : Execution
  pub does : a ≡ mean_actions.Own execution lines (map slots drops) cost
  pub stands : StandsFor p code slots (gone_on x execution lines) after

-- both ask for the join of a block, and go on at one entry
pub record JoinsAlike (p : Program) (u : ProgramUnit) (next : ℕ) (a : mean_actions.Action) : Type 0 where
  pub block : ℕ
  pub kids : List Kid
  pub entry : ℕ
  pub does : a ≡ Meets (Join block kids entry)
  pub leads : next ≡ address_of p u entry

-- both ask for the same, or meet the same fault at the same line
abbrev pub MeetsAlike : (p : Program) (code : Code) (slots : Slots) (x : Proc) (b : Body) (s : StandsFor p code slots x b) (e : Point) → Ask → mean_actions.Action → Type 0
MeetsAlike p code slots x b s e (ask.Fail line fault) a = a ≡ fails line.0 fault
MeetsAlike p code slots x b s e (ask.LetGo dropped) a = ⊥
MeetsAlike p code slots x b s e (ask.Channel inport outport next) a = AsksAlike (site_at p s.first.unit slots x.execution e s.frame s.below b.frame) (ask.Channel inport outport next) a
MeetsAlike p code slots x b s e (ask.Merger inport outports next) a = AsksAlike (site_at p s.first.unit slots x.execution e s.frame s.below b.frame) (ask.Merger inport outports next) a
MeetsAlike p code slots x b s e (ask.Send slot items next) a = AsksAlike (site_at p s.first.unit slots x.execution e s.frame s.below b.frame) (ask.Send slot items next) a
MeetsAlike p code slots x b s e (ask.Receive slot items status at_end next) a = AsksAlike (site_at p s.first.unit slots x.execution e s.frame s.below b.frame) (ask.Receive slot items status at_end next) a
MeetsAlike p code slots x b s e (ask.Probe slot empty next) a = AsksAlike (site_at p s.first.unit slots x.execution e s.frame s.below b.frame) (ask.Probe slot empty next) a
MeetsAlike p code slots x b s e (ask.Begin next) a = AsksAlike (site_at p s.first.unit slots x.execution e s.frame s.below b.frame) (ask.Begin next) a
MeetsAlike p code slots x b s e (ask.Join next) a = JoinsAlike p s.first.unit next a
MeetsAlike p code slots x b s e ask.End a = a ≡ Meets mean_actions.End

-- a body that stands for a process does what the process does
abbrev pub DoesAlike : (p : Program) (code : Code) (slots : Slots) (x : Proc) (b : Body) (s : StandsFor p code slots x b) (e : Point) → code_actions.Action → mean_actions.Action → Type 0
DoesAlike p code slots x b s e code_actions.Stuck a = a ≡ Rest
DoesAlike p code slots x b s e (code_actions.Own after lines drops cost) a = StepsAlike p code slots x after lines drops cost a
DoesAlike p code slots x b s e (code_actions.Meets k) a = MeetsAlike p code slots x b s e k a

-- the same at an entry of the unit; behind the last one neither does anything
abbrev pub DoesNext : (p : Program) (code : Code) (slots : Slots) (x : Proc) (b : Body) (s : StandsFor p code slots x b) → Option Point → code_actions.Action → mean_actions.Action → Type 0
DoesNext p code slots x b s None k a = (k ≡ code_actions.Stuck) × (a ≡ Rest)
DoesNext p code slots x b s (Some e) k a = DoesAlike p code slots x b s e k a

-- Each body that stands for a process whose values are of their types does what the process does next.
abbrev pub KeepsProgram : Program → Code → Type 0
KeepsProgram p code = (types : Types) (slots : Slots) (x : Proc) → IsFine p types x → (b : Body) (s : StandsFor p code slots x b)
    → DoesNext p code slots x b s (point_at s.first.unit s.frame.entry) (code_actions.action_of b) (mean_actions.action_of p x)

-- Along every schedule no body that stands for a process is stuck.
abbrev pub NeverStuck : Program → Code → Type 0
NeverStuck p code = Throughout (step p) (λ s. (q : Place) (x : Proc) → get s.procs q ≡ Some x → (slots : Slots) (b : Body) → StandsFor p code slots x b → code_actions.action_of b ≡ code_actions.Stuck → ⊥) (first p)
