-- Where the elements of an array stand: in column order, the first subscript varying first.
-- Source: ANSI X3.9-1978, sections 5.2.3 (size), 5.2.4 (order of elements) and 5.4.3 (subscript value); places count from
-- 0, and each subscript is to be within its bounds (this profile).
use Rattle.std.specs.Prelude.{ℕ, ◌+◌, ◌*◌, min, ℤ, pos, ◌+ℤ◌, ◌-ℤ◌, int_le, Bool, true, false, ◌&&◌, cond, Option, Some, None, List, [], ◌∷◌, Result}
use Rattle.std.specs.Option.{ok_or}
use Rattle.fm_base.specs.declared.fault.Fault.{Fault}
use Rattle.fm_base.specs.declared.fault.Fault.TheVariants.{Subscript}
use Rattle.fm_values.specs.Trips.{natural}

-- the lower and the upper bound of each dimension
abbrev pub Bounds : Type 0
Bounds = List (ℤ × ℤ)

-- how many subscripts a dimension has
abbrev pub extent : ℤ × ℤ → ℕ
extent b = natural ((b.1 -ℤ b.0) +ℤ pos 1)

-- how many elements an array has
abbrev pub size : Bounds → ℕ
size [] = 1
size (b ∷ bs) = extent b * size bs

-- a subscript for each dimension, each within its bounds
abbrev pub are_within : Bounds → List ℤ → Bool
are_within [] [] = true
are_within [] (k ∷ ks) = false
are_within (b ∷ bs) [] = false
are_within (b ∷ bs) (k ∷ ks) = (int_le b.0 k && int_le k b.1) && are_within bs ks

-- (s1 - j1) + d1 (s2 - j2) + d1 d2 (s3 - j3) + .. for subscripts s, lower bounds j and extents d
abbrev pub column_place : Bounds → List ℤ → ℕ
column_place [] ks = 0
column_place (b ∷ bs) [] = 0
column_place (b ∷ bs) (k ∷ ks) = natural (k -ℤ b.0) + extent b * column_place bs ks

-- the place of an element, if there is such an element
abbrev pub place_of : Bounds → List ℤ → Option ℕ
place_of bs ks = cond (are_within bs ks) (Some (column_place bs ks)) None

abbrev pub element_place : Bounds → List ℤ → Result ℕ Fault
element_place bs ks = ok_or (place_of bs ks) Subscript

-- the number, or the greatest one of 64 bits where it is greater
abbrev pub at_most : ℕ → ℕ
at_most n = min n 18446744073709551615
