-- A process that meets an event has a frame, and what it asks for is what the event needs there.
use Rattle.std.proofs.Common.{◌≡◌, ℕ, Option, Some, None, List, [], ◌∷◌, refl, sym, ap, ◌∙◌}
use Rattle.fm_base.specs.declared.path.ChanName.{ChanName}
use Rattle.fm_net.specs.Machine.{Place, Need, Reply, Onward, Ask, Stop, Go, made}
use Rattle.fm_rules.specs.declared.program.Program.{Program}
use Rattle.fm_mean.specs.Actions.{Event, Meets, action_of, action_in, running, joining}
use Rattle.fm_mean.specs.Process.{Frame, Kid, Phase, Running, Joining, Ended, Faulted, Proc}
use Rattle.fm_mean.specs.Steps.{ask, ask_for, ask_event, ask_at}

-- a process and its innermost frame
pub record InFrame (x : Proc) : Type 0 where
  pub top : Frame
  pub below : List Frame
  pub is : x.execution.frames ≡ top ∷ below

module _ (p : Program) (x : Proc) (e : Event) where
  running_in : (fs : List Frame) → x.execution.frames ≡ fs → running p x.execution fs ≡ Meets e → InFrame x
  running_in [] is meets = absurd (cc meets)
  running_in (f ∷ below) is meets = record { top = f; below = below; is = is }

  joining_in : (b : ℕ) (kids : List Kid) (fs : List Frame) → x.execution.frames ≡ fs → joining p b kids fs ≡ Meets e → InFrame x
  joining_in b kids [] is meets = absurd (cc meets)
  joining_in b kids (f ∷ below) is meets = record { top = f; below = below; is = is }

  acting_in : (ph : Phase) → action_in p x.execution ph ≡ Meets e → InFrame x
  acting_in Running meets = running_in x.execution.frames refl meets
  acting_in (Joining b kids) meets = joining_in b kids x.execution.frames refl meets
  acting_in Ended meets = absurd (cc meets)
  acting_in (Faulted line fault) meets = absurd (cc meets)

  pub in_some : action_of p x ≡ Meets e → InFrame x
  in_some meets = acting_in x.phase meets

  pub asks_at : (meets : action_of p x ≡ Meets e) (i : InFrame x) → ask p x ≡ ask_at p x i.below i.top e
  asks_at meets i = ap (ask_for p x) meets ∙ ap (ask_event p x e) i.is

-- how a process goes on by what it asks for
abbrev pub onward_by : Place → Reply Proc → Ask Proc → Option (Onward Proc)
onward_by path r Stop = None
onward_by path r (Go need f) = Some (f (made path need) r)

abbrev pub onward_at : ChanName → Reply Proc → Ask Proc → Option (Onward Proc)
onward_at c r Stop = None
onward_at c r (Go need f) = Some (f c r)

some_same : {A : Type 0} (a b : A) → Some a ≡ Some b → a ≡ b
some_same a b e = cc e

pub same_onward : (path : Place) (r : Reply Proc) (a : Ask Proc) (need need2 : Need) (f g : ChanName → Reply Proc → Onward Proc) → a ≡ Go need f → a ≡ Go need2 g → f (made path need) r ≡ g (made path need2) r
same_onward path r a need need2 f g one other = some_same (f (made path need) r) (g (made path need2) r) (ap (onward_by path r) (sym one ∙ other))

pub same_at : (c : ChanName) (r : Reply Proc) (a : Ask Proc) (need need2 : Need) (f g : ChanName → Reply Proc → Onward Proc) → a ≡ Go need f → a ≡ Go need2 g → f c r ≡ g c r
same_at c r a need need2 f g one other = some_same (f c r) (g c r) (ap (onward_at c r) (sym one ∙ other))
