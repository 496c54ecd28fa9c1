-- The range of INTEGER.
-- Source: this profile. ANSI X3.9-1978, section 4.3, leaves the range to the processor.
use Rattle.std.specs.Prelude.{ℕ, ℤ, pos, negsuc, Bool, ◌&&◌}
use Rattle.std.specs.Int.Signed.{le_z}

-- 2^63 - 1
abbrev pub greatest_integer : ℕ
greatest_integer = 9223372036854775807

-- -2^63
abbrev pub least_integer : ℤ
least_integer = negsuc greatest_integer

-- an INTEGER has 64 bits
abbrev pub is_integer : ℤ → Bool
is_integer z = le_z least_integer z && le_z z (pos greatest_integer)
