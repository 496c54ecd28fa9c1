-- Children that start and children that are joined, one after the other.
use Rattle.std.proofs.Common.{◌≡◌, ℕ, zero, suc, ◌+◌, ◌<◌, ◌≤◌, ◌==◌, eq-eqb, true, false, cond, Bool, Option, Some, None, List, [], ◌∷◌, ◌++◌, length, map, refl, sym, ap, subst, ◌∙◌, arith}
use Rattle.std.proofs.lemmas.Bool.{ne_eqb}
use Rattle.std.proofs.lemmas.List.{map-append}
use Rattle.std.specs.Prelude.{is_some, option_map, option_to_list}
use Rattle.std.specs.FinMap.{get, insert}
use Rattle.fm_finmap.specs.Changes.{alter, alters, Off}
use Rattle.fm_finmap.proofs.Alters.{alters-append, alters_past, alters_there}
use Rattle.fm_net.specs.Machine.{Place, Procs, child, with_child, gathered, start_changes, child_changes}
use Rattle.fm_net.proofs.Keys.{path_order}
use Rattle.fm_net.proofs.Children.{other_child, off_children, child_there, first_gathered}
use Rattle.fm_net_procs.specs.Readings.{ended_at}
use native.Mathlib.Decide.{ℕ_discrete}

-- ---- starting

module _ {X : Type 0} where
  starts_snoc : (p : Place) (b i : ℕ) (xs : List X) (x : X) → start_changes p b i (xs ++ x ∷ []) ≡ start_changes p b i xs ++ (child p b (length xs + i), λ o. Some x) ∷ []
  starts_snoc p b i [] x = ap (λ (j : ℕ). (child p b j, λ (o : Option X). Some x) ∷ []) (omega arith)
  starts_snoc p b i (y ∷ xs) x =
      ap (λ ws. (child p b i, λ o. Some y) ∷ ws) (starts_snoc p b (suc i) xs x
      ∙ ap (λ (j : ℕ). start_changes p b (suc i) xs ++ (child p b j, λ (o : Option X). Some x) ∷ []) (omega arith))

  off_before : (p : Place) (b i j : ℕ) (xs : List X) → length xs + i ≤ j → Off (child p b j) (start_changes p b i xs)
  off_before p b i j [] far = tt
  off_before p b i j (x ∷ xs) far = (other_child p b j i (λ e. omega arith), off_before p b (suc i) j xs (omega arith))

  -- one child more is put
  pub starts_more : (p : Place) (b : ℕ) (xs : List X) (x : X) (m : Procs X) → insert (alters (start_changes p b 1 xs) m) (child p b (length xs + 1)) x ≡ alters (start_changes p b 1 (xs ++ x ∷ [])) m
  unfolding alter
  starts_more p b xs x m =
      alters_past path_order (start_changes p b 1 xs) m (child p b (length xs + 1)) (λ o. Some x) (off_before p b 1 (length xs + 1) xs (omega arith))
      ∙ sym (ap (λ ws. alters ws m) (starts_snoc p b 1 xs x) ∙ alters-append path_order (start_changes p b 1 xs) ((child p b (length xs + 1), λ o. Some x) ∷ []) m)

  -- the next child is as it was
  pub next_as_before : (p : Place) (b : ℕ) (xs : List X) (m : Procs X) → get (alters (start_changes p b 1 xs) m) (child p b (length xs + 1)) ≡ get m (child p b (length xs + 1))
  next_as_before p b xs m = alters_there path_order (start_changes p b 1 xs) m (child p b (length xs + 1)) (off_before p b 1 (length xs + 1) xs (omega arith))

-- ---- joining

module _ {X : Type 0} (emptied : X → X) where
  children_snoc : (p : Place) (b i n : ℕ) → child_changes emptied p b i (suc n) ≡ child_changes emptied p b i n ++ (child p b (n + i), option_map emptied) ∷ []
  children_snoc p b i zero = ap (λ (j : ℕ). (child p b j, option_map emptied) ∷ []) (omega arith)
  children_snoc p b i (suc n) =
      ap (λ ws. (child p b i, option_map emptied) ∷ ws) (children_snoc p b (suc i) n
      ∙ ap (λ (j : ℕ). child_changes emptied p b (suc i) n ++ (child p b j, option_map emptied) ∷ []) (omega arith))

  off_joined : (p : Place) (b n : ℕ) → Off (child p b (n + 1)) (child_changes emptied p b 1 n)
  off_joined p b n = off_children emptied (child p b (n + 1)) p b 1 n (λ j low high. other_child p b (n + 1) j (λ e. omega arith))

  -- one child more is emptied
  pub children_more : (p : Place) (b n : ℕ) (m : Procs X) → alter (alters (child_changes emptied p b 1 n) m) (child p b (n + 1)) (option_map emptied) ≡ alters (child_changes emptied p b 1 (n + 1)) m
  children_more p b n m =
      let next : suc n ≡ n + 1 = omega arith in
      alters_past path_order (child_changes emptied p b 1 n) m (child p b (n + 1)) (option_map emptied) (off_joined p b n)
      ∙ sym (ap (λ ws. alters ws m) (children_snoc p b 1 n) ∙ alters-append path_order (child_changes emptied p b 1 n) ((child p b (n + 1), option_map emptied) ∷ []) m)
      ∙ ap (λ (k : ℕ). alters (child_changes emptied p b 1 k) m) next

  -- the next child is as it was
  pub child_as_before : (p : Place) (b n : ℕ) (m : Procs X) → get (alters (child_changes emptied p b 1 n) m) (child p b (n + 1)) ≡ get m (child p b (n + 1))
  child_as_before p b n m = alters_there path_order (child_changes emptied p b 1 n) m (child p b (n + 1)) (off_joined p b n)

left_of_one : {Y Z K : Type 0} (f : Y → Z) (g : K → Z) (o : Option K) (y : Y) → option_map g o ≡ Some (f y) → f y ∷ [] ≡ map g (option_to_list o)
left_of_one f g None y e = absurd (cc e)
left_of_one f g (Some k) y e = let same : g k ≡ f y = cc e in ap (λ z. z ∷ []) (sym same)

module _ {X : Type 0} (has_ended : X → Bool) (m : Procs X) (p : Place) (b : ℕ) where
  one_first : (i n : ℕ) (x : X) (xs : List X) → get m (child p b i) ≡ Some x → has_ended x ≡ true → gathered has_ended m p b (suc i) n ≡ Some xs → gathered has_ended m p b i (suc n) ≡ Some (x ∷ xs)
  one_first i n x xs is done others =
      ap (λ o. with_child has_ended o (gathered has_ended m p b (suc i) n)) is
      ∙ ap (λ c. cond c (option_map (λ ys. x ∷ ys) (gathered has_ended m p b (suc i) n)) None) done ∙ ap (option_map (λ ys. x ∷ ys)) others

  -- the children before the last one, and the last one
  pub record Last (i n : ℕ) (ys : List X) : Type 0 where
    pub front : List X
    pub last : X
    pub before : gathered has_ended m p b i n ≡ Some front
    pub is : get m (child p b (n + i)) ≡ Some last
    pub done : has_ended last ≡ true
    pub whole : front ++ last ∷ [] ≡ ys

  nothing_in : (xs : List X) → Some [] ≡ Some xs → [] ≡ xs
  nothing_in xs e = cc e

  pub last_gathered : (i n : ℕ) (ys : List X) → gathered has_ended m p b i (suc n) ≡ Some ys → Last i n ys
  last_gathered i zero ys e =
      let g = first_gathered has_ended m p b i 0 ys e in
      record { front = []; last = g.head; before = refl; is = ap (λ (j : ℕ). get m (child p b j)) (omega arith) ∙ g.is; done = g.done; whole = ap (λ zs. g.head ∷ zs) (nothing_in g.tail g.others) ∙ g.all }
  last_gathered i (suc n) ys e =
      let g = first_gathered has_ended m p b i (suc n) ys e in
      let l = last_gathered (suc i) n g.tail g.others in
      record {
        front = g.head ∷ l.front;
        last = l.last;
        before = one_first i n g.head l.front g.is g.done l.before;
        is = ap (λ (j : ℕ). get m (child p b j)) (omega arith) ∙ l.is;
        done = l.done;
        whole = ap (λ zs. g.head ∷ zs) l.whole ∙ g.all;
      }

  one_last : (i n : ℕ) (x : X) (xs : List X) → gathered has_ended m p b i n ≡ Some xs → get m (child p b (n + i)) ≡ Some x → has_ended x ≡ true → gathered has_ended m p b i (suc n) ≡ Some (xs ++ x ∷ [])
  one_last i zero x xs before is done =
      one_first i 0 x [] (ap (λ (j : ℕ). get m (child p b j)) (omega arith) ∙ is) done refl ∙ ap (λ zs. Some (zs ++ x ∷ [])) (nothing_in xs before)
  one_last i (suc n) x xs before is done =
      let g = first_gathered has_ended m p b i n xs before in
      one_first i (suc n) g.head (g.tail ++ x ∷ []) g.is g.done (one_last (suc i) n x g.tail g.others (ap (λ (j : ℕ). get m (child p b j)) (omega arith) ∙ is) done)
      ∙ ap (λ zs. Some (zs ++ x ∷ [])) g.all

  some_of : (o : Option (List X)) → is_some o ≡ true → (xs : List X) × (o ≡ Some xs)
  some_of None e = absurd (cc e)
  some_of (Some xs) e = (xs, refl)

  ended_of : (o : Option X) → ended_at has_ended o ≡ true → (x : X) × (o ≡ Some x) × (has_ended x ≡ true)
  ended_of None e = absurd (cc e)
  ended_of (Some x) e = (x, refl, e)

  -- where so many and one more have ended, so have so many, and the one more
  pub one_less : (n : ℕ) (ys : List X) → gathered has_ended m p b 1 (n + 1) ≡ Some ys → ((xs : List X) × (gathered has_ended m p b 1 n ≡ Some xs)) × (ended_at has_ended (get m (child p b (n + 1))) ≡ true)
  one_less n ys e =
      let next : suc n ≡ n + 1 = omega arith in
      let l = last_gathered 1 n ys (ap (λ (j : ℕ). gathered has_ended m p b 1 j) next ∙ e) in
      ((l.front, l.before), ap (ended_at has_ended) l.is ∙ l.done)

  -- one child more has ended
  pub ended_more : (n : ℕ) → is_some (gathered has_ended m p b 1 n) ≡ true → ended_at has_ended (get m (child p b (n + 1))) ≡ true → is_some (gathered has_ended m p b 1 (n + 1)) ≡ true
  ended_more n before this =
      let xs = some_of (gathered has_ended m p b 1 n) before in
      let x = ended_of (get m (child p b (n + 1))) this in
      let next : n + 1 ≡ suc n = omega arith in
      ap (λ (k : ℕ). is_some (gathered has_ended m p b 1 k)) next ∙ ap is_some (one_last 1 n x.0 xs.0 xs.1 x.1 x.2)

  -- those behind the first ones have ended too
  pub ended_from : (n d : ℕ) → ((k : ℕ) → n ≤ k → k < d + n → ended_at has_ended (get m (child p b (k + 1))) ≡ true) → is_some (gathered has_ended m p b 1 n) ≡ true → is_some (gathered has_ended m p b 1 (d + n)) ≡ true
  ended_from n zero each before =
      let same : 0 + n ≡ n = omega arith in
      ap (λ (k : ℕ). is_some (gathered has_ended m p b 1 k)) same ∙ before
  ended_from n (suc d) each before =
      let next : suc d + n ≡ d + n + 1 = omega arith in
      ap (λ (k : ℕ). is_some (gathered has_ended m p b 1 k)) next
      ∙ ended_more (d + n) (ended_from n d (λ k low high. each k low (omega (arith, high))) before) (each (d + n) (omega arith) (omega arith))

  -- one child has not
  pub not_all_ended : (n count : ℕ) → n < count → ended_at has_ended (get m (child p b (n + 1))) ≡ false → is_some (gathered has_ended m p b 1 count) ≡ false
  not_all_ended n count low this = go (gathered has_ended m p b 1 count) refl
    where
      go : (o : Option (List X)) → gathered has_ended m p b 1 count ≡ o → is_some o ≡ false
      go None e = refl
      go (Some xs) e =
          let x = child_there has_ended m p b 1 count xs e (n + 1) (omega arith) (omega arith) in
          absurd (cc (sym this ∙ ap (ended_at has_ended) x.1 ∙ x.2))

  -- as many have ended as there are, or not all have
  pub all_counted : (n count : ℕ) → n ≤ count → is_some (gathered has_ended m p b 1 n) ≡ true → (n < count → is_some (gathered has_ended m p b 1 count) ≡ false) → (n == count) ≡ is_some (gathered has_ended m p b 1 count)
  all_counted n count within ended not_all = go (ℕ_discrete n count)
    where
      go : Dec (n ≡ count) → (n == count) ≡ is_some (gathered has_ended m p b 1 count)
      go (yes e) = eq-eqb n count e ∙ sym (subst (λ (k : ℕ). is_some (gathered has_ended m p b 1 k) ≡ true) e ended)
      go (no differs) = ne_eqb n count differs ∙ sym (not_all (omega (arith, within, differs)))

  -- what is kept of one child more
  pub kept_more : {Y : Type 0} (f : X → Y) (n : ℕ) (x : Y) → Some x ≡ option_map f (get m (child p b (n + 1))) → (ys : List X) → gathered has_ended m p b 1 (n + 1) ≡ Some ys
      → (xs : List X) × (gathered has_ended m p b 1 n ≡ Some xs) × (map f xs ++ x ∷ [] ≡ map f ys)
  kept_more f n x this ys e =
      let next : suc n ≡ n + 1 = omega arith in
      let l = last_gathered 1 n ys (ap (λ (j : ℕ). gathered has_ended m p b 1 j) next ∙ e) in
      let same : x ≡ f l.last = cc (this ∙ ap (option_map f) l.is) in
      (l.front, l.before, ap (λ z. map f l.front ++ z ∷ []) same ∙ sym (map-append f l.front (l.last ∷ [])) ∙ ap (map f) l.whole)

  -- what one child more leaves
  pub lefts_more : {Y K : Type 0} (f : X → Y) (g : K → Y) (n : ℕ) (ks : List K) (o : Option K) → ((xs : List X) → gathered has_ended m p b 1 n ≡ Some xs → map f xs ≡ map g ks)
      → option_map g o ≡ option_map f (get m (child p b (n + 1))) → (ys : List X) → gathered has_ended m p b 1 (n + 1) ≡ Some ys → map f ys ≡ map g (ks ++ option_to_list o)
  lefts_more f g n ks o before this ys e =
      let next : suc n ≡ n + 1 = omega arith in
      let l = last_gathered 1 n ys (ap (λ (j : ℕ). gathered has_ended m p b 1 j) next ∙ e) in
      ap (map f) (sym l.whole) ∙ map-append f l.front (l.last ∷ []) ∙ ap (λ zs. zs ++ f l.last ∷ []) (before l.front l.before)
      ∙ ap (λ zs. map g ks ++ zs) (left_of_one f g o l.last (this ∙ ap (option_map f) l.is)) ∙ sym (map-append g ks (option_to_list o))
