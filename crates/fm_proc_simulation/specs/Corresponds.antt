-- When a process of stack code corresponds to one of the meaning.
-- Source: this profile.
use Rattle.std.specs.Prelude.{◌≡◌, ℕ, Option, Some, None, List, [], ◌∷◌}
use Rattle.fm_net.specs.Machine.{State}
use Rattle.fm_net.specs.Owned.{IsOwned}
use Rattle.fm_net.specs.Typed.{AllIn, IsTyped}
use Rattle.fm_symbols.specs.declared.names.Variable.{Variable}
use Rattle.fm_rules.specs.declared.program.Program.{Program}
use Rattle.fm_mean.specs.Names.{ProgramUnit, unit_at}
use Rattle.fm_mean.specs.Process as mean
use Rattle.fm_mean.specs.Process.{Running, Joining, Ended, Faulted, Proc}
use Rattle.fm_mean.specs.Fits.{IsFine, Fits, variables_of}
use Rattle.fm_mean.specs.Steps.{language}
use Rattle.fm_code.specs.declared.body.Body.{Body}
use Rattle.fm_code.specs.declared.body.Frame.{Frame}
use Rattle.fm_gen_relation.specs.Operands.{BacksStand}
use Rattle.fm_gen_relation.specs.Frames.{FrameStands, BelowStand}
use Rattle.fm_proc_language.specs.Slots.{Slots, port_in}
use Rattle.fm_proc_language.specs.Processes as code
use Rattle.fm_proc_language.specs.Processes.{CodeProc, Kid, body_words}
use Rattle.fm_proc_simulation.specs.SlotWords.{IsHeld, IsSlots}
use Rattle.fm_gen.specs.Entries.{statement_address}
use Rattle.fm_gen.specs.Programs.{code_of}
use Rattle.fm_gen.specs.Bodies.{next_address, EndsBlock}

-- Processes.

abbrev pub first_variables : Program → List mean.Frame → List Variable
first_variables p [] = []
first_variables p (f ∷ fs) = variables_of p f.unit

pub record KidStands (p : Program) (mine : List Variable) (k : mean.Kid) (c : Kid) : Type 0 where
  pub unit : ProgramUnit
  pub there : unit_at p k.unit ≡ Some unit
  pub number : c.unit ≡ k.unit
  pub backs : BacksStand mine unit.names.variables k.backs c.backs

abbrev pub KidsStand : Program → List Variable → List mean.Kid → List Kid → Type 0
KidsStand p mine [] [] = Unit {0}
KidsStand p mine [] (c ∷ cs) = ⊥
KidsStand p mine (k ∷ ks) [] = ⊥
KidsStand p mine (k ∷ ks) (c ∷ cs) = KidStands p mine k c × KidsStand p mine ks cs

abbrev pub PhaseStands : Program → List Variable → mean.Phase → code.Phase → Type 0
PhaseStands p mine Running code.Running = Unit {0}
PhaseStands p mine Running (code.Joining block kids) = ⊥
PhaseStands p mine Running code.Ended = ⊥
PhaseStands p mine Running (code.Faulted line fault) = ⊥
PhaseStands p mine (Joining b ks) code.Running = ⊥
PhaseStands p mine (Joining b ks) (code.Joining block kids) = (block ≡ b) × KidsStand p mine ks kids
PhaseStands p mine (Joining b ks) code.Ended = ⊥
PhaseStands p mine (Joining b ks) (code.Faulted line fault) = ⊥
PhaseStands p mine Ended code.Running = ⊥
PhaseStands p mine Ended (code.Joining block kids) = ⊥
PhaseStands p mine Ended code.Ended = Unit {0}
PhaseStands p mine Ended (code.Faulted line fault) = ⊥
PhaseStands p mine (Faulted l f) code.Running = ⊥
PhaseStands p mine (Faulted l f) (code.Joining block kids) = ⊥
PhaseStands p mine (Faulted l f) code.Ended = ⊥
PhaseStands p mine (Faulted l f) (code.Faulted line fault) = (line ≡ l) × (fault ≡ f)

-- where the innermost frame is; anywhere where nothing more comes
abbrev pub frame_address : Program → mean.Phase → mean.Frame → Frame → ProgramUnit → ℕ
frame_address p Running f m u = next_address p Running f u
frame_address p (Joining block kids) f m u = next_address p (Joining block kids) f u
frame_address p Ended f m u = m.address
frame_address p (Faulted line fault) f m u = m.address

abbrev pub EndsWhereJoining : mean.Phase → ProgramUnit → mean.Frame → Type 0
EndsWhereJoining Running u f = Unit {0}
EndsWhereJoining (Joining block kids) u f = EndsBlock u f
EndsWhereJoining Ended u f = Unit {0}
EndsWhereJoining (Faulted line fault) u f = Unit {0}

-- a body of the program's code stands for what runs, frame by frame, and its port words name slots in use
pub record BodyStands (p : Program) (slots : Slots) (x : Proc) (b : Body) : Type 0 where
  pub frame : mean.Frame
  pub below : List mean.Frame
  pub frames : x.execution.frames ≡ frame ∷ below
  pub loaded : b.code ≡ code_of p
  pub machine : b.machine ≡ x.execution.machine
  pub node : b.node ≡ x.execution.node
  pub first : FrameStands p (port_in slots) (frame_address p x.phase frame b.frame) frame b.frame
  pub others : BelowStand p (statement_address p) (port_in slots) frame b.frame below b.below
  pub ends : EndsWhereJoining x.phase first.unit frame
  pub held : AllIn (IsHeld slots) (body_words b)

-- a child that was joined has neither frames nor a body
abbrev pub BodyAlike : Program → Slots → Proc → Option Body → Type 0
BodyAlike p slots x None = x.execution.frames ≡ []
BodyAlike p slots x (Some b) = BodyStands p slots x b

pub record Corresponds (p : Program) (y : CodeProc) (x : Proc) : Type 0 where
  pub phase : PhaseStands p (first_variables p x.execution.frames) x.phase y.phase
  pub lines : y.lines ≡ x.lines
  pub next_block : y.next_block ≡ x.next_block
  pub next_channel : y.next_channel ≡ x.next_channel
  pub slots : IsSlots y.slots
  pub body : BodyAlike p y.slots x y.body

-- ports and messages are of their types, and each port stands somewhere once
pub record IsLive (p : Program) (s : State Proc) : Type 0 where
  pub typed : IsTyped (language p) (IsFine p) Fits s
  pub owned : IsOwned (language p) s
