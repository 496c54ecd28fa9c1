-- The children of a process by their numbers: who has ended, what they leave, and that they are joined.
use Rattle.std.proofs.Common.{◌≡◌, ℕ, zero, suc, ◌+◌, ◌<◌, Bool, true, false, cond, Option, Some, None, List, [], ◌∷◌, ◌++◌, length, take, refl, sym, ap, subst, ◌∙◌, arith}
use Rattle.std.specs.Prelude.{option_map, slice_get}
use Rattle.std.specs.FinMap.{get}
use Rattle.fm_finmap.specs.Changes.{alter, alters}
use Rattle.fm_finmap.proofs.Alters.{alters-append}
use Rattle.fm_finmap.proofs.Keys.{path_order}
use Rattle.fm_net.specs.Machine.{Place, Procs, child, with_child, gathered, child_changes}
use Rattle.fm_net.proofs.Children.{first_gathered}
use Rattle.fm_nodes_procs.specs.Asks.{AllLeft}
use Rattle.fm_nodes_procs.specs.Children.{AreNumbered, is_over}

-- ---- numbers

-- one number more
pub numbered_more : (order : List Place) (p : Place) (b i : ℕ) (ns : List ℕ) (n : ℕ) → AreNumbered order p b i ns → slice_get order n ≡ Some (child p b (length ns + i)) → AreNumbered order p b i (ns ++ n ∷ [])
numbered_more order p b i [] n all is = (is ∙ ap (λ (j : ℕ). Some (child p b j)) (omega arith), tt)
numbered_more order p b i (m ∷ ns) n all is = (all.0, numbered_more order p b (suc i) ns n all.1 (is ∙ ap (λ (j : ℕ). Some (child p b j)) (omega arith)))

-- and without the last one
pub numbered_front : (order : List Place) (p : Place) (b i : ℕ) (ns : List ℕ) (n : ℕ) → AreNumbered order p b i (ns ++ n ∷ []) → AreNumbered order p b i ns × (slice_get order n ≡ Some (child p b (length ns + i)))
numbered_front order p b i [] n all = (tt, all.0 ∙ ap (λ (j : ℕ). Some (child p b j)) (omega arith))
numbered_front order p b i (m ∷ ns) n all =
    let rest = numbered_front order p b (suc i) ns n all.1 in
    ((all.0, rest.0), rest.1 ∙ ap (λ (j : ℕ). Some (child p b j)) (omega arith))

-- the number at a place
pub numbered_at : (order : List Place) (p : Place) (b i : ℕ) (ns : List ℕ) → AreNumbered order p b i ns → (k n : ℕ) → slice_get ns k ≡ Some n → slice_get order n ≡ Some (child p b (k + i))
numbered_at order p b i [] all k n is = absurd (cc is)
numbered_at order p b i (m ∷ ns) all zero n is = ap (slice_get order) (sym (the_one m n is)) ∙ all.0 ∙ ap (λ (j : ℕ). Some (child p b j)) (omega arith)
  where
    the_one : (x y : ℕ) → Some x ≡ Some y → x ≡ y
    the_one x y e = cc
numbered_at order p b i (m ∷ ns) all (suc k) n is = numbered_at order p b (suc i) ns all.1 k n is ∙ ap (λ (j : ℕ). Some (child p b j)) (omega arith)

-- numbers in a longer order
pub numbered_same : (one other : List Place) → one ≡ other → (p : Place) (b i : ℕ) (ns : List ℕ) → AreNumbered one p b i ns → AreNumbered other p b i ns
numbered_same one other e p b i ns all = subst (λ qs. AreNumbered qs p b i ns) e all

-- ---- who has ended

module _ {Proc : Type 0} (has_ended : Proc → Bool) (m : Procs Proc) (p : Place) (b : ℕ) where
  abbrev pub over : ℕ → Bool
  over k = is_over has_ended (get m (child p b k))

  with_one : (o : Option Proc) (xs : Option (List Proc)) → is_over has_ended o ≡ true → (ys : List Proc) → xs ≡ Some ys → (x : Proc) × (with_child has_ended o xs ≡ Some (x ∷ ys))
  with_one None xs e ys is = absurd (cc e)
  with_one (Some x) xs e ys is = (x, ap (λ c. cond c (option_map (λ zs. x ∷ zs) xs) None) e ∙ ap (option_map (λ zs. x ∷ zs)) is)

  -- all have ended
  pub all_over : (i n : ℕ) → ((k : ℕ) → k < n → over (k + i) ≡ true) → (kids : List Proc) × (gathered has_ended m p b i n ≡ Some kids)
  all_over i zero each = ([], refl)
  all_over i (suc n) each =
      let rest = all_over (suc i) n (λ k low. ap over (omega arith) ∙ each (suc k) (omega (arith, low))) in
      let first = with_one (get m (child p b i)) (gathered has_ended m p b (suc i) n) (ap over (omega arith) ∙ each 0 (omega arith)) rest.0 rest.1 in
      (first.0 ∷ rest.0, first.1)

  without_one : (o : Option Proc) (xs : Option (List Proc)) → is_over has_ended o ≡ false → with_child has_ended o xs ≡ None
  without_one None xs e = refl
  without_one (Some x) xs e = ap (λ c. cond c (option_map (λ zs. x ∷ zs) xs) None) e

  without_rest : (o : Option Proc) (xs : Option (List Proc)) → xs ≡ None → with_child has_ended o xs ≡ None
  without_rest None xs e = refl
  without_rest (Some x) xs e = go (has_ended x)
    where
      go : (c : Bool) → cond c (option_map (λ zs. x ∷ zs) xs) None ≡ None
      go true = ap (option_map (λ zs. x ∷ zs)) e
      go false = refl

  -- one hasn't
  pub one_not_over : (i n k : ℕ) → k < n → over (k + i) ≡ false → gathered has_ended m p b i n ≡ None
  one_not_over i zero k low not = absurd (omega (arith, low))
  one_not_over i (suc n) zero low not = without_one (get m (child p b i)) (gathered has_ended m p b (suc i) n) (ap over (omega arith) ∙ not)
  one_not_over i (suc n) (suc k) low not =
      without_rest (get m (child p b i)) (gathered has_ended m p b (suc i) n) (one_not_over (suc i) n k (omega (arith, low)) (ap over (omega arith) ∙ not))

  -- each of those that have ended is who is there
  pub gathered_at : (i n : ℕ) (kids : List Proc) → gathered has_ended m p b i n ≡ Some kids → (k : ℕ) → k < n → (x : Proc) × (slice_get kids k ≡ Some x) × (get m (child p b (k + i)) ≡ Some x)
  gathered_at i zero kids e k low = absurd (omega (arith, low))
  gathered_at i (suc n) kids e zero low =
      let g = first_gathered has_ended m p b i n kids e in
      (g.head, ap (λ (xs : List Proc). slice_get xs 0) (sym g.all), ap (λ (j : ℕ). get m (child p b j)) (omega arith) ∙ g.is)
  gathered_at i (suc n) kids e (suc k) low =
      let g = first_gathered has_ended m p b i n kids e in
      let r = gathered_at (suc i) n g.tail g.others k (omega (arith, low)) in
      (r.0, ap (λ (xs : List Proc). slice_get xs (suc k)) (sym g.all) ∙ r.1, ap (λ (j : ℕ). get m (child p b j)) (omega arith) ∙ r.2)

  pub gathered_count : (i n : ℕ) (kids : List Proc) → gathered has_ended m p b i n ≡ Some kids → length kids ≡ n
  gathered_count i zero kids e = ap length (nothing_in kids e)
    where
      nothing_in : (xs : List Proc) → Some [] ≡ Some xs → xs ≡ []
      nothing_in xs is = cc
  gathered_count i (suc n) kids e =
      let g = first_gathered has_ended m p b i n kids e in
      ap length (sym g.all) ∙ ap suc (gathered_count (suc i) n g.tail g.others)

-- ---- what they leave

module _ {Proc Left : Type 0} (Is : Proc → Left → Type 0) where
  pub left_more : (kids : List Proc) (k : ℕ) (x : Proc) (ls : List Left) (l : Left) → slice_get kids k ≡ Some x → AllLeft Is (take k kids) ls → Is x l → AllLeft Is (take (suc k) kids) (ls ++ l ∷ [])
  left_more [] k x ls l at all is = absurd (cc at)
  left_more (y ∷ ys) zero x [] l at all is = (subst (λ z. Is z l) (the_one x y (sym at)) is, tt)
    where
      the_one : (u v : Proc) → Some u ≡ Some v → u ≡ v
      the_one u v e = cc
  left_more (y ∷ ys) zero x (k ∷ ls) l at all is = absurd all
  left_more (y ∷ ys) (suc k) x [] l at all is = absurd all
  left_more (y ∷ ys) (suc k) x (j ∷ ls) l at all is = (all.0, left_more ys k x ls l at all.1 is)

  -- the next one is behind them
  pub left_next : (kids : List Proc) (k : ℕ) (x : Proc) (ls more : List Left) (l : Left) → slice_get kids k ≡ Some x → AllLeft Is (take k kids) ls → Is x l → more ≡ ls ++ l ∷ [] → AllLeft Is (take (k + 1) kids) more
  left_next kids k x ls more l at all is pushed =
      let next : suc k ≡ k + 1 = omega arith in
      subst (λ (ms : List Left). AllLeft Is (take (k + 1) kids) ms) (sym pushed) (subst (λ (j : ℕ). AllLeft Is (take j kids) (ls ++ l ∷ [])) next (left_more kids k x ls l at all is))

-- ---- joined

module _ {Proc : Type 0} (emptied : Proc → Proc) where
  children_snoc : (p : Place) (b i n : ℕ) → child_changes emptied p b i (suc n) ≡ child_changes emptied p b i n ++ (child p b (n + i), option_map emptied) ∷ []
  children_snoc p b i zero = ap (λ (j : ℕ). (child p b j, option_map emptied) ∷ []) (omega arith)
  children_snoc p b i (suc n) =
      ap (λ ws. (child p b i, option_map emptied) ∷ ws) (children_snoc p b (suc i) n
      ∙ ap (λ (j : ℕ). child_changes emptied p b (suc i) n ++ (child p b j, option_map emptied) ∷ []) (omega arith))

  -- the last of the children is emptied first
  pub last_first : (p : Place) (b n : ℕ) (m : Procs Proc) → alters (child_changes emptied p b 1 n) (alter m (child p b (n + 1)) (option_map emptied)) ≡ alters (child_changes emptied p b 1 (suc n)) m
  last_first p b n m = sym (ap (λ ws. alters ws m) (children_snoc p b 1 n) ∙ alters-append path_order (child_changes emptied p b 1 n) ((child p b (n + 1), option_map emptied) ∷ []) m)
