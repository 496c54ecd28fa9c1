-- What a call takes from a source and gives to a sink, where these tell their bytes. Source: this profile.
use Rattle.std.specs.Prelude.{◌≡◌, ℕ, ◌≤◌, ◌<◌, ◌↔◌, List, [], length, take, ⊤, Some, None, IfOk, Result}
use Rattle.std.specs.declared.option.Option.{Option}
use Rattle.std.specs.Io.KnownBytes.{Consumes, Appends}

-- the call took some bytes from the front, at most so many
abbrev pub TakesAtMost : Option (List ℕ) → Option (List ℕ) → ℕ → Type 0
TakesAtMost old new most = (bs : List ℕ) × Consumes old new bs × (length bs ≤ most)

-- the call wrote a front of these bytes
abbrev pub WritesFront : Option (List ℕ) → Option (List ℕ) → List ℕ → Type 0
WritesFront old new bytes = (n : ℕ) × (n ≤ length bytes) × Appends old new (take n bytes)

-- a read into a buffer of so many bytes, at least one, gave none exactly where none was left
abbrev pub EndsExactly : {E : Type 0} → Option (List ℕ) → Result ℕ E → ℕ → Type 0
EndsExactly None result room = ⊤
EndsExactly (Some left) result room = IfOk result (λ n. 0 < room → (n ≡ 0) ↔ (left ≡ []))
