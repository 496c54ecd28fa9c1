-- What functions that may refuse answer.
-- Source: this profile.
use Rattle.std.specs.Prelude.{ℕ, Bool, true, false, Option, Some, None, List}

-- the places, where one was taken
abbrev pub taken_by : Bool → List Bool → Option (List Bool)
taken_by false taken = None
taken_by true taken = Some taken

abbrev pub one_where : Bool → ℕ
one_where true = 1
one_where false = 0
