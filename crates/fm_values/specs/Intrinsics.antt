-- The intrinsic functions: their names, the numbers of their arguments, and their values.
-- Source: ANSI X3.9-1978, sections 15.3 and 15.10 (table of intrinsic functions). That ABS, MOD, SIGN, DIM, MAX and MIN
-- are of INTEGER is this profile's.
use Rattle.std.specs.Prelude.{ℕ, ℤ, pos, neg_ℤ, ◌-ℤ◌, ◌*ℤ◌, int_div, int_lt, unsigned_abs, Bool, cond, nat_le, ◌==◌, Option, List, [], ◌∷◌, codes, slice_index_or, Result, Ok}
use Rattle.std.specs.Int.{int_max, int_min}
use Rattle.std.specs.List.{find, fold}
use Rattle.std.specs.Option.{option_map}
use Rattle.std.specs.Str.{bytes_eq}
use Rattle.fm_base.specs.declared.fault.Fault.{Fault}
use Rattle.fm_values.specs.Values.{in_range, unless_zero}
use Rattle.fm_values.specs.declared.intrinsic.Intrinsic.{Intrinsic}
use Rattle.fm_values.specs.declared.intrinsic.Intrinsic.TheVariants.{Abs, Mod, Sign, Dim, Max, Min}

abbrev pub intrinsic_names : List (List ℕ × Intrinsic)
intrinsic_names =
    (codes "ABS", Abs) ∷ (codes "IABS", Abs) ∷ (codes "MOD", Mod) ∷ (codes "SIGN", Sign) ∷ (codes "ISIGN", Sign) ∷ (codes "DIM", Dim) ∷ (codes "IDIM", Dim)
    ∷ (codes "MAX", Max) ∷ (codes "MAX0", Max) ∷ (codes "MIN", Min) ∷ (codes "MIN0", Min) ∷ []

-- the intrinsic function of a name, if it is that of one
abbrev pub intrinsic_named : List ℕ → Option Intrinsic
intrinsic_named name = option_map (λ p. p.1) (find (λ (p : List ℕ × Intrinsic). bytes_eq name p.0) intrinsic_names)

-- whether it takes so many arguments
abbrev pub takes : Intrinsic → ℕ → Bool
takes Abs n = n == 1
takes Mod n = n == 2
takes Sign n = n == 2
takes Dim n = n == 2
takes Max n = nat_le 2 n
takes Min n = nat_le 2 n

abbrev pub magnitude : ℤ → ℤ
magnitude x = pos (unsigned_abs x)

abbrev pub absolute_value : ℤ → Result ℤ Fault
absolute_value x = in_range (magnitude x)

-- what division leaves
abbrev pub remainder : ℤ → ℤ → Result ℤ Fault
remainder x y = unless_zero y (in_range (x -ℤ int_div x y *ℤ y))

-- the magnitude of one with the sign of the other, which is plus at 0
abbrev pub sign_transfer : ℤ → ℤ → Result ℤ Fault
sign_transfer x y = in_range (cond (int_lt y (pos 0)) (neg_ℤ (magnitude x)) (magnitude x))

abbrev pub positive_difference : ℤ → ℤ → Result ℤ Fault
positive_difference x y = in_range (int_max (x -ℤ y) (pos 0))

-- an argument that isn't there counts as 0, which no checked program has
abbrev pub argument : ℕ → List ℤ → ℤ
argument i xs = slice_index_or xs i (pos 0)

-- each is one operation: its result alone is tested for range
abbrev pub intrinsic_value : Intrinsic → List ℤ → Result ℤ Fault
intrinsic_value Abs xs = absolute_value (argument 0 xs)
intrinsic_value Mod xs = remainder (argument 0 xs) (argument 1 xs)
intrinsic_value Sign xs = sign_transfer (argument 0 xs) (argument 1 xs)
intrinsic_value Dim xs = positive_difference (argument 0 xs) (argument 1 xs)
intrinsic_value Max xs = Ok (fold int_max (argument 0 xs) xs)
intrinsic_value Min xs = Ok (fold int_min (argument 0 xs) xs)
