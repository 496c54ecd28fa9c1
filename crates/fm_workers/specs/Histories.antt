-- What a table's answer says of its history.
-- Source: this profile.
use Rattle.std.specs.Prelude.{◌≡◌, ◌⊎◌, ℕ, List, [], ◌∷◌, ◌++◌}
use Rattle.fm_base.specs.declared.schedule.Turn.{Turn}
use Rattle.fm_workers.specs.declared.shared.Given.{Given}
use Rattle.fm_workers.specs.declared.shared.Given.TheVariants.{Played, Stranger, Over}

-- an entry: so many steps of this process
abbrev pub entry : ℕ → ℕ → Turn
entry process steps = record { number = process; steps = steps }

-- at most one entry has come, of this process
abbrev pub HasPlayed : ℕ → List Turn → List Turn → Type 0
HasPlayed process old new = (new ≡ old) ⊎ ((steps : ℕ) × (new ≡ old ++ entry process steps ∷ []))

-- at most one entry has come
abbrev pub HasGrown : List Turn → List Turn → Type 0
HasGrown old new = (new ≡ old) ⊎ ((t : Turn) × (new ≡ old ++ t ∷ []))

-- what was played is in the history, and a stranger, or one who comes too late, plays nothing
abbrev pub IsGiven : Given → ℕ → List Turn → List Turn → Type 0
IsGiven Played process old new = HasPlayed process old new
IsGiven Stranger process old new = new ≡ old
IsGiven Over process old new = new ≡ old
