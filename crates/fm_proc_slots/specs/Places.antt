-- Places of slots whose numbers words can hold.
-- Source: this profile.
use Rattle.std.specs.Prelude.{ℕ, suc, ◌≤◌, List}
use Rattle.std.specs.List.{All}

-- the number of a slot before which so many stand is a word
abbrev pub HasNumber : ℕ → Type 0
HasNumber k = suc k ≤ 9223372036854775807

-- the numbers of all these are words
abbrev pub HaveNumbers : List ℕ → Type 0
HaveNumbers ks = All HasNumber ks
