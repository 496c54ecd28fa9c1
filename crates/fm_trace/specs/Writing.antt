-- Pieces of a trace's text, as they are written.
-- Source: this profile.
use Rattle.std.specs.Prelude.{◌≡◌, ℕ, ◌<◌, ◌≤◌, ◌^◌, Bool, false, List, [], ◌∷◌, ◌++◌, length, take, drop, replicate, codes}
use Rattle.std.specs.Fmt.{decimal}
use Rattle.std.specs.List.{AllByRecursion}
use Rattle.fm_base.specs.declared.schedule.Turn.{Turn}
use Rattle.fm_trace.specs.declared.trace.Run.{Run}
use Rattle.fm_trace.specs.Texts.{ended, entry_text, same_turn}

-- the lines before the entries
abbrev pub head_text : (turns count : ℕ) → List ℕ
head_text turns count = codes "fmc trace 2\nturns " ++ (decimal turns ++ (codes "\nlines " ++ (decimal count ++ codes "\n")))

-- the line of an entry
abbrev pub entry_line : Run → List ℕ
entry_line r = ended (entry_text r)

-- both numbers of an entry are below 2^32
pub record IsSmall (t : Turn) : Type 0 where
  pub number : t.number < 2 ^ 32
  pub steps : t.steps < 2 ^ 32

-- those of all lines
abbrev pub AreSmall : List Run → Type 0
AreSmall rs = AllByRecursion (λ (r : Run). IsSmall r.turn) rs

-- the first of a list is this entry
abbrev pub begins_with : Turn → List Turn → Bool
begins_with turn [] = false
begins_with turn (t ∷ ts) = same_turn turn t

-- so many entries at the front are this one, and the next isn't
pub record IsFront (turn : Turn) (times : ℕ) (history : List Turn) : Type 0 where
  pub there : times ≤ length history
  pub same : take times history ≡ replicate times turn
  pub behind : begins_with turn (drop times history) ≡ false
