-- An element of a list, sought by its place in one part of it after the other.
-- Source: this profile.
use Rattle.std.specs.Prelude.{◌≡◌, ℕ, ◌+◌, Some, List, length, slice_get}
use Rattle.fm_tree.specs.Tree.{Tree}
use Rattle.fm_tree_reference.specs.declared.walk.Found.{Found}
use Rattle.fm_tree_reference.specs.declared.walk.Found.TheVariants.{Here, Behind}

-- the element at a place of these, or the place among those behind them
abbrev pub IsFound : List Tree → ℕ → Found → Type 0
IsFound ts k (Here t) = slice_get ts k ≡ Some t.now
IsFound ts k (Behind n) = k ≡ length ts + n
