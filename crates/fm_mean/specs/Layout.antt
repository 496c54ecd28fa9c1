-- The layout of a frame: the words of its variables one behind the other.
-- Source: this profile.
use Rattle.std.specs.Prelude.{◌≡◌, ℕ, ◌+◌, List, [], ◌∷◌}
use Rattle.fm_symbols.specs.declared.names.Variable.{Variable}

-- the first variable begins at this word, each other one behind the one before it
abbrev pub AreLaidOut : (first : ℕ) → List Variable → Type 0
AreLaidOut n [] = Unit {0}
AreLaidOut n (v ∷ vs) = (v.first ≡ n) × AreLaidOut (n + v.words) vs
