-- How many of some children have ended, from the first on.
-- Source: this profile.
use Rattle.std.specs.Prelude.{◌≡◌, ◌≤◌, ◌<◌, ◌+◌, ℕ, Bool, true, false}

-- so many have ended of those whose numbers begin so, if as many as were known before have; the next one, if
-- there is one, hasn't
pub record IsCounted (over : ℕ → Bool) (first count before n : ℕ) : Type 0 where
  pub low : before ≤ n
  pub high : before < n → n ≤ count
  pub ended : (k : ℕ) → before ≤ k → k < n → over (first + k) ≡ true
  pub next : n < count → over (first + n) ≡ false
