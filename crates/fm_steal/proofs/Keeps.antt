-- What each call leaves of the facts of a lane and a thief.
use Rattle.std.proofs.Common.{◌≡◌, ℕ, zero, suc, ◌+◌, ◌-◌, ◌<◌, ◌≤◌, List, [], ◌∷◌, ◌++◌, length, map, get_or, All, Option, Some, None, MatchOption, IsPermutation, sym, refl, ap, ◌∙◌, subst, append_assoc, append-nil, length-append, arith}
use Rattle.std.specs.List.{enumerate_from}
use Rattle.std.specs.List.Sorted.{IsStrictlyIncreasing}
use Rattle.std.proofs.lemmas.List.{get_or_append_left, map-append}
use Rattle.std.proofs.lemmas.List.FromFn.{length-enumerate_from, get_or-enumerate_from}
use Rattle.std.proofs.lemmas.List.Sorted.{IsPermutation-sym, IsPermutation-trans, IsPermutation-append_left, IsPermutation-append_right, IsPermutation-append_comm, All-permutation, length_permutation}
use Rattle.fm_steal.specs.declared.hand.Hand.{Hand}
use Rattle.fm_steal.specs.Deals.{hand, AreAll, AreTaken, IsFirst, Rises, HavePut, HasTaken, HasPopped, WasEmpty, IsUsedUp, HoldsRest}
use Rattle.fm_steal.specs.declared.handles.Thief.{Thief}
use Rattle.fm_steal.specs.Lanes.{loot_list, all_loot_list}
use Rattle.fm_steal.proofs.Rising.{increasing-more, get_or-firsts}

module _ {T : Type 0} where
  -- the tickets of what was taken are below the number of what was put
  below : (put : List T) (got others : List (ℕ × T)) → AreAll put (got ++ others) → (i : ℕ) (d : ℕ × T) → i < length got → (get_or got i d).0 < length put
  below put got others all i d lt =
      let P : ℕ × T → Type 0 = λ p. p.0 < length put in
      let each : All P (enumerate_from 0 put) = λ k e less. let l = length-enumerate_from 0 put in let at = ap (λ (p : ℕ × T). p.0) (get_or-enumerate_from 0 put k e (omega arith)) in omega arith in
      let long = length-append got others in
      let there : P (get_or (got ++ others) i d) = All-permutation P (enumerate_from 0 put) (got ++ others) all each i d (omega arith) in
      subst P (get_or_append_left got others d i lt) there

  pub rises_more : (got : List (ℕ × T)) (x : ℕ × T) → Rises got → IsFirst got x → Rises (got ++ x ∷ [])
  rises_more got x up first =
      subst IsStrictlyIncreasing (sym (map-append (λ (p : ℕ × T). p.0) got (x ∷ [])))
      (increasing-more (map (λ (p : ℕ × T). p.0) got) x.0 up
      (λ i lt. let r = get_or-firsts got i x lt in let e = r.0 in let n = first.1 in let l = below first.0 got first.2.0 first.2.1 i x r.1 in omega arith))

  pub put_keeps : (v w : Hand T) (n : ℕ) (x : T) → HavePut v ((n, x) ∷ []) w → (w.put ≡ v.put ++ x ∷ []) × (w.parts ≡ v.parts) × (w.got ≡ v.got)
  put_keeps v w n x is = (ap (λ (y : Hand T). y.put) is, ap (λ (y : Hand T). y.parts) is, ap (λ (y : Hand T). y.got) is)

  taken_one : (v w : Hand T) (x : ℕ × T) → HasTaken v (x ∷ []) w → Rises v.got → (w.put ≡ v.put) × (w.parts ≡ v.parts) × Rises w.got
  taken_one v w x h up = (ap (λ (y : Hand T). y.put) h.0, ap (λ (y : Hand T). y.parts) h.0, subst Rises (sym (ap (λ (y : Hand T). y.got) h.0)) (rises_more v.got x up (h.1 x refl)))

  pub steal_keeps : (v w : Hand T) (r : Option (ℕ × T)) → MatchOption r ((w ≡ v) × WasEmpty v) (λ p. HasTaken v (p ∷ []) w) → Rises v.got → (w.put ≡ v.put) × (w.parts ≡ v.parts) × Rises w.got
  steal_keeps v w None h up = (ap (λ (y : Hand T). y.put) h.0, ap (λ (y : Hand T). y.parts) h.0, subst Rises (sym (ap (λ (y : Hand T). y.got) h.0)) up)
  steal_keeps v w (Some x) h up = taken_one v w x h up

  pub pop_keeps : (v w : Hand T) (r : Option (ℕ × T)) → MatchOption r ((w ≡ v) × IsUsedUp v) (λ p. HasPopped v (p ∷ []) w) → Rises v.got → (w.put ≡ v.put) × (w.parts ≡ v.parts) × Rises w.got
  pop_keeps v w None h up = (ap (λ (y : Hand T). y.put) h.0, ap (λ (y : Hand T). y.parts) h.0, subst Rises (sym (ap (λ (y : Hand T). y.got) h.0)) up)
  pop_keeps v w (Some x) h up = taken_one v w x h.0 up

  -- as many were put as were taken and are left
  pub all_long : (put : List T) (pairs : List (ℕ × T)) → AreAll put pairs → length put ≡ length pairs
  all_long put pairs all = sym (length-enumerate_from 0 put) ∙ sym (length_permutation (enumerate_from 0 put) pairs all)

  -- who has taken as many as were put has taken all
  pub all_taken : (put : List T) (got items : List (ℕ × T)) → AreAll put (got ++ items) → length put ≡ length got → AreAll put got
  all_taken put got [] all is = subst (AreAll put) (append-nil got) all
  all_taken put got (x ∷ xs) all is = let a = all_long put (got ++ x ∷ xs) all in let b = length-append got (x ∷ xs) in absurd (omega arith)

  -- what was gathered, and then taken
  pub all_closed : (put : List T) (before after left : List (ℕ × T)) → IsPermutation before after → AreAll put (after ++ left) → AreAll put (before ++ left)
  all_closed put before after left same all = IsPermutation-trans _ _ _ all (IsPermutation-append_left left _ _ (IsPermutation-sym _ _ same))

  all_loot-append : (ts : List (Thief T)) (t : Thief T) → all_loot_list (ts ++ t ∷ []) ≡ all_loot_list ts ++ loot_list t
  all_loot-append [] t = append-nil (loot_list t)
  all_loot-append (u ∷ us) t = ap (λ l. loot_list u ++ l) (all_loot-append us t) ∙ sym (append_assoc (loot_list u) (all_loot_list us) (loot_list t))

  -- the last thief's loot goes to the owner
  pub gathers : (before got : List (ℕ × T)) (all ts : List (Thief T)) (t : Thief T) → all ≡ ts ++ t ∷ [] → IsPermutation before (got ++ all_loot_list all) → IsPermutation before ((got ++ loot_list t) ++ all_loot_list ts)
  gathers before got all ts t is kept =
      let e : got ++ all_loot_list all ≡ got ++ (all_loot_list ts ++ loot_list t) = ap (λ l. got ++ l) (ap all_loot_list is ∙ all_loot-append ts t) in
      let turned : IsPermutation (got ++ (all_loot_list ts ++ loot_list t)) (got ++ (loot_list t ++ all_loot_list ts)) = IsPermutation-append_right got _ _ (IsPermutation-append_comm (all_loot_list ts) (loot_list t)) in
      let flat : got ++ (loot_list t ++ all_loot_list ts) ≡ (got ++ loot_list t) ++ all_loot_list ts = sym (append_assoc got (loot_list t) (all_loot_list ts)) in
      subst (IsPermutation before) flat (IsPermutation-trans _ _ _ (subst (IsPermutation before) e kept) turned)

-- what holds of all holds of the first ones
pub first_of : {A : Type 0} (P : A → Type 0) (xs ys all : List A) → all ≡ xs ++ ys → All P all → All P xs
first_of P xs ys all is h k d lt = let n = length-append xs ys in let m = ap length is in
    subst P (ap (λ l. get_or l k d) is ∙ get_or_append_left xs ys d k lt) (h k d (omega arith))
