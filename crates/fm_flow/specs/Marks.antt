-- Numbers that have been met: a flag for each.
-- Source: this profile.
use Rattle.std.specs.Prelude.{ℕ, Bool, true, false, ◌||◌, ◌&&◌, List, [], ◌∷◌, slice_index_or, slice_set}

abbrev pub flag_at : List Bool → ℕ → Bool
flag_at flags n = slice_index_or flags n false

-- the flags, when these have been met too
abbrev pub marked : List Bool → List ℕ → List Bool
marked flags [] = flags
marked flags (n ∷ ns) = marked (slice_set flags n true) ns

-- whether one of them has a flag
abbrev pub any_flag : List Bool → List ℕ → Bool
any_flag flags [] = false
any_flag flags (n ∷ ns) = flag_at flags n || any_flag flags ns

abbrev pub all_flags : List Bool → List ℕ → Bool
all_flags flags [] = true
all_flags flags (n ∷ ns) = flag_at flags n && all_flags flags ns

-- whether one of them has a flag or comes twice, or it was found before
abbrev pub comes_again : Bool → List Bool → List ℕ → Bool
comes_again found flags [] = found
comes_again found flags (n ∷ ns) = comes_again (flag_at flags n || found) (slice_set flags n true) ns
