-- How many children have ended, told by their numbers.
use Rattle.std.proofs.Common.{◌≡◌, ◌⊎◌, inl, inr, ℕ, ◌+◌, ◌-◌, ◌<◌, ◌≤◌, Bool, true, false, refl, sym, ap, ◌∙◌, arith}
use Rattle.std.proofs.lemmas.Bool.{cases_lt}
use Rattle.std.specs.Prelude.{is_some}
use Rattle.std.specs.FinMap.{get}
use Rattle.fm_net.specs.Endings.{IsCounted}
use Rattle.fm_net.specs.Machine.{Place, child, gathered}
use Rattle.fm_net_procs.specs.declared.entries.Entries.{Entries}
use Rattle.fm_net_procs.specs.Awaited.{EndedSoFar, HaveEnded, child_ended}
use Rattle.fm_net_procs.specs.Kept.{AreChildren}
use Rattle.fm_net_procs.specs.Readings.{ended_at, order_of, over_in, procs_of}
use Rattle.fm_net_procs.proofs.Families.{child_number}
use Rattle.fm_net_procs.proofs.Family.{ended_from, not_all_ended}
use Rattle.fm_net_procs.proofs.Maps.{over_there}

-- as many are counted as there are, at most
pub counted_within : {over : ℕ → Bool} {first count before n : ℕ} → IsCounted over first count before n → before ≤ count → n ≤ count
counted_within {before = before} {n = n} c low = grind (arith, low, c.low, c.high)

module _ {P L X : Type 0} (seen : P → X) (over : P → Bool) (has_ended : X → Bool) (ends : (x : P) → has_ended (seen x) ≡ over x) (x : Entries P L) where
  module _ (first count before n : ℕ) (c : IsCounted (over_in over x) first count before n) where
    module _ (q : Place) (b : ℕ) (all : AreChildren (order_of x) first q b count) where
      child_over : (k : ℕ) → k < count → over_in over x (first + k) ≡ ended_at has_ended (get (procs_of seen x) (child q b (k + 1)))
      child_over k low = over_there seen over has_ended ends x (first + k) (child q b (k + 1)) (child_number (order_of x) (order_of x) refl first q b count all k (first + k) low refl)

      -- where those that were known to have ended have, so have as many as were counted
      pub counted_on : is_some (gathered has_ended (procs_of seen x) q b 1 before) ≡ true → is_some (gathered has_ended (procs_of seen x) q b 1 n) ≡ true
      counted_on known =
          let far : n ≡ (n - before) + before = omega (arith, c.low) in
          ap (λ (k : ℕ). is_some (gathered has_ended (procs_of seen x) q b 1 k)) far
          ∙ ended_from has_ended (procs_of seen x) q b before (n - before) (λ k low high.
          let less : k < n = omega (arith, high, far) in
          let inside : k < count = omega (arith, less, low, c.high) in
          sym (child_over k inside) ∙ c.ended k low less) known

      -- where there are more, the next one hasn't, and so not all have
      pub counted_next : n < count → child_ended has_ended (procs_of seen x) q b (n + 1) ≡ false
      counted_next low = sym (child_over n low) ∙ c.next low

      pub counted_all : n < count → is_some (gathered has_ended (procs_of seen x) q b 1 count) ≡ false
      counted_all low = not_all_ended has_ended (procs_of seen x) q b n count low (counted_next low)

      pub counted_so_far : HaveEnded (child_ended has_ended (procs_of seen x) q) b count before → EndedSoFar (child_ended has_ended (procs_of seen x) q) b count n
      counted_so_far known = record { first = record { within = within; ended = λ i low. each i low (cases_lt i before) }; next = counted_next }
        where
          within : n ≤ count
          within = counted_within c known.within

          each : (i : ℕ) → i < n → (i < before) ⊎ (before ≤ i) → child_ended has_ended (procs_of seen x) q b (i + 1) ≡ true
          each i low (inl early) = known.ended i early
          each i low (inr late) = sym (child_over i (omega (arith, low, within))) ∙ c.ended i late low
