-- Tests of whether two values are the same.
-- Source: none, it says that a test is exact.
use Rattle.std.specs.Prelude.{◌≡◌, ◌≢◌, Bool}
use Rattle.std.specs.Bool.{MatchBool}

-- yes exactly where the two are the same
abbrev pub IsSameTest : {T : Type 0} → Bool → T → T → Type 0
IsSameTest r a b = MatchBool r (a ≡ b) (a ≢ b)
