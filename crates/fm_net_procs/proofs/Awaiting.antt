-- Which of the children that are awaited have ended.
use Rattle.std.proofs.Common.{◌≡◌, ◌⊎◌, inl, inr, ℕ, ◌+◌, ◌<◌, ◌≤◌, Bool, true, false, nat_lt, Option, Some, None, refl, sym, ap, subst, ◌∙◌, arith}
use Rattle.std.proofs.lemmas.Bool.{cases_lt, lt-ltb, ltb-true}
use Rattle.fm_net_procs.specs.declared.children.Awaited.{Awaited}
use Rattle.fm_net_procs.specs.Awaited.{AreKnown, EndedSoFar, HasOneLeft, HaveEnded, IsAwaited}
use Rattle.fm_net_procs.specs.Kept.{count_awaited}

inside : {X : Type 0} {x y : X} → Some x ≡ Some y → x ≡ y
inside e = cc e

pub two : {x y u v : ℕ} → ◌≡◌ {A = Option (ℕ × ℕ)} (Some (x, y)) (Some (u, v)) → (x ≡ u) × (y ≡ v)
two {x} {y} {u} {v} e = let same : ◌≡◌ {A = ℕ × ℕ} (x, y) (u, v) = inside e in (ap (λ (z : ℕ × ℕ). z.0) same, ap (λ (z : ℕ × ℕ). z.1) same)

-- ---- so many are counted, where some were known to have ended

module _ (over : (block i : ℕ) → Bool) (awaited : Option (ℕ × ℕ)) (count ended : ℕ) (count_is : count ≡ count_awaited awaited)
    (next : (b : ℕ) → awaited ≡ Some (b, count) → ended < count → over b (ended + 1) ≡ false) where
  same_count : (b n : ℕ) → awaited ≡ Some (b, n) → n ≡ count
  same_count b n is = sym (count_is ∙ ap count_awaited is)

  in_block : (b n : ℕ) → awaited ≡ Some (b, n) → awaited ≡ Some (b, count)
  in_block b n is = is ∙ ap (λ (k : ℕ). Some (b, k)) (same_count b n is)

  left_below : ended < count → HasOneLeft over awaited
  left_below low = go awaited refl
    where
      go : (o : Option (ℕ × ℕ)) → awaited ≡ o → HasOneLeft over awaited
      go None is = absurd (omega (arith, low, count_is ∙ ap count_awaited is))
      go (Some bn) is =
          let at = in_block bn.0 bn.1 is in
          record { block = bn.0; count = count; awaits = at; before = ended; low = low; runs = next bn.0 at low }

  -- who is said to wait has one left
  pub left_so : nat_lt ended count ≡ true → HasOneLeft over awaited
  left_so waits = left_below (ltb-true ended count waits)

  module _ (before : ℕ) (so_far : (b : ℕ) → awaited ≡ Some (b, count) → HaveEnded over b count before → EndedSoFar over b count ended) (known : AreKnown over awaited before) where
    counted_in : (b : ℕ) → awaited ≡ Some (b, count) → EndedSoFar over b count ended
    counted_in b at = so_far b at (known b count at)

    waits_left : HasOneLeft over awaited → nat_lt ended count ≡ true
    waits_left left = go (cases_lt ended count)
      where
        go : (ended < count) ⊎ (count ≤ ended) → nat_lt ended count ≡ true
        go (inl low) = lt-ltb ended count low
        go (inr high) =
            let all = (counted_in left.block (in_block left.block left.count left.awaits)).first in
            let low : left.before < ended = omega (arith, left.low, same_count left.block left.count left.awaits, high) in
            absurd (cc (sym (all.ended left.before low) ∙ left.runs))

    pub told_so : IsAwaited over awaited (record { ended = ended; waits = nat_lt ended count })
    told_so = record {
      counted = λ b n is. subst (λ (k : ℕ). EndedSoFar over b k ended) (sym (same_count b n is)) (counted_in b (in_block b n is));
      waits = (left_so, waits_left);
    }

-- ---- children that have ended like others

module _ (ended over : (block i : ℕ) → Bool) (alike : (b i : ℕ) → ended b i ≡ over b i) where
  have_alike : (b n k : ℕ) → HaveEnded ended b n k → HaveEnded over b n k
  have_alike b n k have = record { within = have.within; ended = λ i low. sym (alike b (i + 1)) ∙ have.ended i low }

  so_far_alike : (b n k : ℕ) → EndedSoFar ended b n k → EndedSoFar over b n k
  so_far_alike b n k so = record { first = have_alike b n k so.first; next = λ low. sym (alike b (k + 1)) ∙ so.next low }

  pub known_alike : (awaited : Option (ℕ × ℕ)) (k : ℕ) → AreKnown ended awaited k → AreKnown over awaited k
  known_alike awaited k known b n is = have_alike b n k (known b n is)

  pub left_alike : (awaited : Option (ℕ × ℕ)) → HasOneLeft ended awaited → HasOneLeft over awaited
  left_alike awaited left = record { block = left.block; count = left.count; awaits = left.awaits; before = left.before; low = left.low; runs = sym (alike left.block (left.before + 1)) ∙ left.runs }

pub told_alike : (ended over : (block i : ℕ) → Bool) → ((b i : ℕ) → ended b i ≡ over b i) → (awaited : Option (ℕ × ℕ)) (r : Awaited) → IsAwaited ended awaited r → IsAwaited over awaited r
told_alike ended over alike awaited r told = record {
  counted = λ b n is. so_far_alike ended over alike b n r.ended (told.counted b n is);
  waits = (λ w. left_alike ended over alike awaited (told.waits.0 w), λ left. told.waits.1 (left_alike over ended (λ b i. sym (alike b i)) awaited left));
}
