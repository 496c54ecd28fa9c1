-- How often a DO loop runs.
-- Source: ANSI X3.9-1978, section 11.10.3 (the iteration count), over whole numbers; a loop without increment is
-- ZeroDivide (this profile).
use Rattle.std.specs.Prelude.{ℕ, zero, suc, ℤ, pos, negsuc, ◌+ℤ◌, ◌-ℤ◌, int_div, cond, Option, Some, None, Result, Ok, Err}
use Rattle.std.specs.Ordering.{int_eq}
use Rattle.fm_base.specs.declared.fault.Fault.{Fault}
use Rattle.fm_base.specs.declared.fault.Fault.TheVariants.{ZeroDivide}

-- the number, or 0 where it is negative
abbrev pub natural : ℤ → ℕ
natural (pos n) = n
natural (negsuc n) = 0

-- MAX((m2 - m1 + m3) / m3, 0)
abbrev pub trips : (m1 m2 m3 : ℤ) → ℕ
trips m1 m2 m3 = natural (int_div ((m2 -ℤ m1) +ℤ m3) m3)

-- how many are left behind the first, if there is a first
abbrev pub behind_first : ℕ → Option ℕ
behind_first zero = None
behind_first (suc n) = Some n

abbrev pub trips_behind : (m1 m2 m3 : ℤ) → Result (Option ℕ) Fault
trips_behind m1 m2 m3 = cond (int_eq m3 (pos 0)) (Err ZeroDivide) (Ok (behind_first (trips m1 m2 m3)))
