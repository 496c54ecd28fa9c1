-- Entries of a kept schedule.
-- Source: this profile.
use Rattle.std.specs.Prelude.{◌≡◌, ◌⊎◌, ℕ, ◌+◌, Bool, true, false, List, [], ◌∷◌, ◌++◌}
use Rattle.fm_base.specs.declared.schedule.Turn.{Turn}

-- so many steps of the process of a number
abbrev pub turn_of : (number steps : ℕ) → Turn
turn_of number steps = record { number = number; steps = steps }

-- the last entry has so many steps more
abbrev pub lengthened : (steps : ℕ) → List Turn → List Turn
lengthened steps [] = []
lengthened steps (t ∷ []) = turn_of t.number (t.steps + steps) ∷ []
lengthened steps (t ∷ u ∷ ts) = t ∷ lengthened steps (u ∷ ts)

-- with a piece of so many steps: an entry of its own, or joined to the last one
abbrev pub with_piece : (joins : Bool) → List Turn → (number steps : ℕ) → List Turn
with_piece false ts number steps = ts ++ turn_of number steps ∷ []
with_piece true ts number steps = lengthened steps ts

-- the last entry is of the process of this number
pub record EndsWith (ts : List Turn) (number : ℕ) : Type 0 where
  pub front : List Turn
  pub last : Turn
  pub whole : ts ≡ front ++ last ∷ []
  pub number_is : last.number ≡ number

-- the schedule is as it was, or has a piece more of this process
abbrev pub MayHavePiece : (joins : Bool) → (number : ℕ) → (old new : List Turn) → Type 0
MayHavePiece joins number old new = (new ≡ old) ⊎ ((steps : ℕ) × (new ≡ with_piece joins old number steps))

-- the schedule is as it was, or has an entry more
abbrev pub MayHaveEntry : (old new : List Turn) → Type 0
MayHaveEntry old new = (new ≡ old) ⊎ ((t : Turn) × (new ≡ old ++ t ∷ []))
