-- Positions of a text: each byte with what stands before it, and which are inside a character constant.
-- Source: ANSI X3.9-1978, section 4.8.1 (a constant stands between apostrophes, and two of them in it stand for one).
use Rattle.std.specs.Prelude.{ℕ, suc, zero, Bool, false, not, List, [], ◌∷◌, ◌++◌, ◌==◌, if◌then◌else◌}

pub record Position : Type 0 where
  pub before : List ℕ
  pub byte : ℕ

-- the positions of a text that stands behind these bytes
abbrev pub positions_behind : List ℕ → List ℕ → List Position
positions_behind before [] = []
positions_behind before (b ∷ bs) = record { before = before; byte = b } ∷ positions_behind (before ++ b ∷ []) bs

abbrev pub positions : List ℕ → List Position
positions text = positions_behind [] text

-- the number of apostrophes
abbrev pub apostrophes : List ℕ → ℕ
apostrophes [] = 0
apostrophes (b ∷ bs) = if b == 39 then suc (apostrophes bs) else apostrophes bs

abbrev pub is_odd : ℕ → Bool
is_odd zero = false
is_odd (suc n) = not (is_odd n)

-- what stands behind these bytes is inside a constant: the apostrophes among them are odd in number
abbrev pub is_inside : List ℕ → Bool
is_inside before = is_odd (apostrophes before)
