-- The order of paths: a path comes before its extensions, else the first pair that differs decides.
-- Source: this profile.
use Rattle.std.specs.Prelude.{ℕ, List, Bool, ◌&&◌, ◌==◌}
use Rattle.std.specs.declared.cmp.Ordering.{Ordering}
use Rattle.std.specs.Ordering.{nat_cmp, ordering_then}
use Rattle.std.specs.Cmp.Lexicographic.{pointwise, slice_cmp}
use Rattle.fm_base.specs.declared.path.ChanName.{ChanName}

-- by block, and then by index
abbrev pub pair_cmp : ℕ × ℕ → ℕ × ℕ → Ordering
pair_cmp a b = ordering_then (nat_cmp a.0 b.0) (nat_cmp a.1 b.1)

abbrev pub path_cmp : List (ℕ × ℕ) → List (ℕ × ℕ) → Ordering
path_cmp = slice_cmp pair_cmp

abbrev pub pair_eq : ℕ × ℕ → ℕ × ℕ → Bool
pair_eq a b = (a.0 == b.0) && (a.1 == b.1)

-- whether two paths are one
abbrev pub path_eq : List (ℕ × ℕ) → List (ℕ × ℕ) → Bool
path_eq = pointwise pair_eq

-- channels: by the maker's path, and then by number
abbrev pub channel_cmp : ChanName → ChanName → Ordering
channel_cmp a b = ordering_then (path_cmp a.maker b.maker) (nat_cmp a.number b.number)
