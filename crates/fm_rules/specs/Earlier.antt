-- Items of a list with those that stand before them.
-- Source: this profile.
use Rattle.std.specs.Prelude.{ℕ, List, map, take}
use Rattle.std.specs.List.{enumerate_from}

-- each item, with those that stand before it
abbrev pub with_earlier : {X : Type 0} → List X → List (List X × X)
with_earlier {X} xs = map (λ (at : ℕ × X). (take at.0 xs, at.1)) (enumerate_from 0 xs)
