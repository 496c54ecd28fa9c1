-- When a source or a sink, which counts its faults, may answer that it failed. Source: this profile.
use Rattle.std.specs.Prelude.{ℕ, ◌+◌, ◌-◌, ◌^◌, ◌≤◌, Bool, true, nat_eq, nat_lt, ◌&&◌, if◌then◌else◌, min, OnErr, Result, Ok, Err}

-- one more, where a count stays at its last value once it is there
abbrev pub one_more : ℕ → ℕ
one_more count = min (count + 1) (2 ^ 64 - 1)

-- the count rose, or stands at its last value
abbrev pub Rose : ℕ → ℕ → Type 0
Rose before now = one_more before ≤ now

-- the count never falls, and an error comes only where it rose
pub record HasCause {T E : Type 0} (before now : ℕ) (result : Result T E) : Type 0 where
  pub later : before ≤ now
  pub failed : OnErr result (Rose before now)

-- one more where there was a fault
abbrev pub count_after : Bool → ℕ → ℕ
count_after fault faults = if fault then one_more faults else faults

-- a write failed, or took nothing of a piece of so many bytes that isn't empty
abbrev pub is_refused : {E : Type 0} → Result ℕ E → ℕ → Bool
is_refused (Ok count) size = nat_eq count 0 && nat_lt 0 size
is_refused (Err _) size = true
