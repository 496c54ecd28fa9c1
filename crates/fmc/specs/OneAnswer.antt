-- Two answers to the same bytes.
-- Source: this profile.
use Rattle.std.specs.Prelude.{◌≡◌, ◌≢◌, ◌⊎◌, ℕ, true, List}
use Rattle.fm_base.specs.declared.schedule.Turn.{Turn}
use Rattle.fm_net.specs.Machine.{Place}
use Rattle.fmc.specs.declared.answer.Exit.{Exit}
use Rattle.fmc.specs.declared.answer.Exit.TheVariants.{NoMemory}
use Rattle.fmc.specs.Answer.{IsPlayedExit}
use Rattle.fmc.specs.Exits.{is_decided}

-- exits, schedules, processes and texts of two answers are the same
pub record IsOneAnswer (x y : Exit) (h i : List Turn) (ps qs : List Place) (t u : List ℕ) : Type 0 where
  pub exits : x ≡ y
  pub histories : h ≡ i
  pub places : ps ≡ qs
  pub texts : t ≡ u

-- the bytes decide the exit, and memory was found
abbrev pub IsDecided : Exit → Type 0
IsDecided exit = (is_decided exit ≡ true) × (exit ≢ NoMemory)

-- two such answers are one
abbrev pub HasOneAnswer : (SaysSo : Exit → List Turn → List Place → List ℕ → Type 0) → Type 0
HasOneAnswer SaysSo = (x y : Exit) (h i : List Turn) (ps qs : List Place) (t u : List ℕ) → IsDecided x → IsDecided y
    → SaysSo x h ps t → SaysSo y i qs u → IsOneAnswer x y h i ps qs t u

-- an answer of the one and an answer of the other are both of runs, or they are one
abbrev pub HaveOneCause : (SaysSo SaysToo : Exit → List Turn → List Place → List ℕ → Type 0) → Type 0
HaveOneCause SaysSo SaysToo = (x y : Exit) (h i : List Turn) (ps qs : List Place) (t u : List ℕ) → IsDecided x → IsDecided y
    → SaysSo x h ps t → SaysToo y i qs u → (IsPlayedExit x × IsPlayedExit y) ⊎ IsOneAnswer x y h i ps qs t u
