-- Numbers in their ranges, and the setup that has them.
use Rattle.std.proofs.Common.{◌≡◌, ℕ, ◌≤◌, refl}
use Rattle.std.proofs.Math.Decide.{dec_le}
use Rattle.std.specs.Prelude.{Some}
use Rattle.std.specs.Coded.{le_prop}
use Rattle.fm_base.specs.declared.schedule.Setup.{Setup}
use Rattle.fm_words.specs.Words.{kept, within, setup_with}

kept_in : (low high n : ℕ) (h : low ≤ n) (k : n ≤ high) (d : Dec (low ≤ n)) (e : Dec (n ≤ high)) → kept low high n d e ≡ Some (record { number = n; least = h; most = k })
kept_in low high n h k (yes a) (yes b) = λ i. Some (record { number = n; least = le_prop a h i; most = le_prop b k i })
kept_in low high n h k (yes a) (no f) = absurd (f k)
kept_in low high n h k (no f) e = absurd (f h)

within_in : (low high n : ℕ) (h : low ≤ n) (k : n ≤ high) → within low high n ≡ Some (record { number = n; least = h; most = k })
within_in low high n h k = kept_in low high n h k (dec_le low n) (dec_le n high)

-- the setup with the values of a setup is that setup
pub setup_is : (x : Setup) → setup_with x.turns x.workers x.slice x.plan ≡ Some x
setup_is x =
    let t = within_in 1 1000000000 x.turns x.some_turns x.few_turns in
    let w = within_in 1 64 x.workers x.some_workers x.few_workers in
    let s = within_in 1 1000000 x.slice x.some_slice x.small_slice in
    rw (t, w, s) refl
