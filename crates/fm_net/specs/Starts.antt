-- The processes in the order of their starting, and the choices of a history that names them by that order.
-- Source: this profile.
use Rattle.std.specs.Prelude.{◌≡◌, ◌⊎◌, ℕ, zero, suc, Option, Some, None, List, [], ◌∷◌, ◌++◌, length, replicate, slice_get, option_and_then, option_map}
use Rattle.std.specs.FinMap.{get}
use Rattle.fm_base.specs.declared.schedule.Turn.{Turn}
use Rattle.fm_sched.specs.Schedule.{next}
use Rattle.fm_net.specs.Machine.{Place, State, Onward, Ask, Stop, Go, child, made, served}
use Rattle.fm_net.specs.Language.{Language, language_step}

-- x is in the list
abbrev pub Among : {X : Type 0} → X → List X → Type 0
Among x [] = ⊥
Among x (y ∷ ys) = (x ≡ y) ⊎ Among x ys

-- so many children of a block from this index on
abbrev pub child_places : Place → (block index count : ℕ) → List Place
child_places p b i zero = []
child_places p b i (suc n) = child p b i ∷ child_places p b (suc i) n

-- the children that a process starts that goes on so
abbrev pub starts_by : {Proc : Type 0} → Place → Option (Onward Proc) → List Place
starts_by p None = []
starts_by p (Some o) = child_places p o.block 1 (length o.starts)

module _ {Proc : Type 0} (language : Language Proc) where
  -- how the process at a place goes on with its step, or none where it has none
  abbrev pub onward_asked : State Proc → Place → Ask Proc → Option (Onward Proc)
  onward_asked s p Stop = None
  onward_asked s p (Go need f) = option_map (f (made p need)) (served language.has_ended s.procs s.chans p need)

  abbrev pub onward_from : State Proc → Place → Option Proc → Option (Onward Proc)
  onward_from s p None = None
  onward_from s p (Some x) = onward_asked s p (language.ask x)

  abbrev pub onward_at : State Proc → Place → Option (Onward Proc)
  onward_at s p = onward_from s p (get s.procs p)

  -- the children that the step of the process at this place starts
  abbrev pub starts_at : State Proc → Place → List Place
  starts_at s p = starts_by p (onward_at s p)

  -- and those that the choices start, one after the other
  abbrev pub starts_along : State Proc → List Place → List Place
  starts_along s [] = []
  starts_along s (c ∷ cs) = starts_at s c ++ starts_along (next (language_step language) s c) cs

  -- main, and then the children of blocks, each block in the order of its calls
  abbrev pub starts_of : State Proc → List Place → List Place
  starts_of first choices = [] ∷ starts_along first choices

-- k steps of the n-th process for each turn, or none where there is no n-th process
abbrev pub choices_of : List Turn → List Place → Option (List Place)
choices_of [] places = Some []
choices_of (t ∷ ts) places = option_and_then (λ p. option_map (λ cs. replicate t.steps p ++ cs) (choices_of ts places)) (slice_get places t.number)
