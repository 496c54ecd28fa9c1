-- A machine of two counters, each of which its own actor runs down to 0 by steps of one: the smallest
-- machine whose steps commute.
-- Source: this profile.
use Rattle.std.specs.Prelude.{ℕ, zero, suc, Option, Some, None, Bool, true, false, option_map}
use Rattle.fm_sched.specs.Schedule.{Step}

-- one less, where that is possible
abbrev pub one_less : ℕ → Option ℕ
one_less zero = None
one_less (suc n) = Some n

-- the first actor's counter is the first of the pair
abbrev pub counter_step : Step (ℕ × ℕ) Bool
counter_step s true = option_map (λ n. ((n, s.1), 1)) (one_less s.0)
counter_step s false = option_map (λ n. ((s.0, n), 1)) (one_less s.1)
