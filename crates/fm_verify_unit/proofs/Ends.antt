-- Where variables end: what their first that ends behind a word is, and how it is found by halves.
use Rattle.std.proofs.Common.{◌≡◌, ℕ, zero, suc, ◌≤◌, ◌<◌, Bool, true, false, cond, Some, List, [], ◌∷◌, length, slice_get, get_or, refl, arith}
use Rattle.std.specs.Prelude.{nat_le, nat_lt}
use Rattle.std.specs.List.Sorted.{IsNonDecreasingBy, IsPartitionPoint}
use Rattle.std.proofs.lemmas.Bool.{and_parts, ltb-true, leb-true, leb-false, lt-ltb}
use Rattle.fm_code.specs.declared.code.Span.{Span}
use Rattle.fm_code_kinds.specs.declared.sorts.Cell.{Cell}
use Rattle.fm_code_kinds.specs.Shapes.{sort_at, sort_in}
use Rattle.fm_verify_unit.specs.Ends.{cell_end, first_past, rise_from, sort_of}

pub sort_found : (cs : List Cell) (s : Span) → sort_at cs s ≡ sort_of (first_past cs s.first) s
sort_found [] s = refl
sort_found (c ∷ cs) s = go (nat_lt s.first (cell_end c)) (sort_found cs s)
  where
    go : (b : Bool) → sort_at cs s ≡ sort_of (first_past cs s.first) s → cond b (sort_in c s) (sort_at cs s) ≡ sort_of (cond b (Some c) (first_past cs s.first)) s
    go true rest = refl
    go false rest = rest

-- each ends at this word or behind it
high : (low : ℕ) (cs : List Cell) → rise_from low cs ≡ true → (j : ℕ) (d : Cell) → j < length cs → low ≤ cell_end (get_or cs j d)
high low [] e j d l = absurd (omega arith)
high low (c ∷ cs) e zero d l = leb-true low (cell_end c) (and_parts (nat_le low (cell_end c)) (rise_from (cell_end c) cs) e).0
high low (c ∷ cs) e (suc j) d l =
    let p = and_parts (nat_le low (cell_end c)) (rise_from (cell_end c) cs) e in
    omega (arith, leb-true low (cell_end c) p.0, high (cell_end c) cs p.1 j d (omega arith))

pub rises : (low : ℕ) (cs : List Cell) → rise_from low cs ≡ true → IsNonDecreasingBy cell_end cs
rises low [] e i j d le l = absurd (omega arith)
rises low (c ∷ cs) e zero zero d le l = omega arith
rises low (c ∷ cs) e zero (suc j) d le l = high (cell_end c) cs (and_parts (nat_le low (cell_end c)) (rise_from (cell_end c) cs) e).1 j d (omega arith)
rises low (c ∷ cs) e (suc i) zero d le l = absurd (omega arith)
rises low (c ∷ cs) e (suc i) (suc j) d le l = rises (cell_end c) cs (and_parts (nat_le low (cell_end c)) (rise_from (cell_end c) cs) e).1 i j d (omega arith) (omega arith)

-- the first behind which none before it ends
pub past_at : (cs : List Cell) (first k : ℕ) → IsPartitionPoint (λ c. nat_le (cell_end c) first ≡ true) (λ c. nat_le (cell_end c) first ≡ false) cs k → k ≤ length cs → first_past cs first ≡ slice_get cs k
past_at [] first k h l = refl
past_at (c ∷ cs) first zero h l =
    let e : nat_le (cell_end c) first ≡ false = h.1 0 c (omega arith) (omega arith) in
    let t : nat_lt first (cell_end c) ≡ true = lt-ltb first (cell_end c) (leb-false (cell_end c) first e) in
    rw t refl
past_at (c ∷ cs) first (suc k) h l =
    let e : nat_le (cell_end c) first ≡ true = h.0 0 c (omega arith) (omega arith) in
    let rest = past_at cs first k ((λ j d a b. h.0 (suc j) d (omega arith) (omega arith)), (λ j d a b. h.1 (suc j) d (omega arith) (omega arith))) (omega arith) in
    go (nat_lt first (cell_end c)) refl (leb-true (cell_end c) first e) rest
  where
    go : (b : Bool) → nat_lt first (cell_end c) ≡ b → cell_end c ≤ first → first_past cs first ≡ slice_get cs k → cond b (Some c) (first_past cs first) ≡ slice_get cs k
    go true e le rest = absurd (omega (arith, ltb-true first (cell_end c) e, le))
    go false e le rest = rest
