-- A fact of each process by its place is kept by a step that keeps it of its own process, gives it to the children that it
-- starts, and leaves it with those that it joins, which have ended.
use Rattle.std.proofs.Common.{◌≡◌, ℕ, zero, suc, ◌+◌, ◌<◌, Option, Some, List, [], ◌∷◌, ◌++◌, Bool, true, false, cond, length, option_map, refl, sym, ap, ◌∙◌, subst, arith}
use Rattle.std.specs.FinMap.{get}
use Rattle.std.specs.Ordering.{eq_by_cmp}
use Rattle.fm_base.specs.PathOrder.{path_cmp}
use Rattle.fm_base.specs.Channels.{Chans}
use Rattle.fm_finmap.specs.Changes.{Change, alter, alters}
use Rattle.fm_finmap.proofs.Keys.{tie}
use Rattle.fm_finmap.proofs.Alters.{get-alter, alter_here, alters-append, alters_there}
use Rattle.fm_net.specs.Machine.{Place, Procs, Need, Nothing, Event, New, Children, Reply, Onward, child, gathered, served, start_changes, child_changes, need_changes, changes}
use Rattle.fm_net.specs.Typed.{AllIn}
use Rattle.fm_net.proofs.Keys.{path_order}
use Rattle.fm_net.proofs.Children.{first_gathered, off_children, other_child, served_children}

the_value : {X : Type 0} (u v : X) → Some u ≡ Some v → u ≡ v
the_value u v e = cc

-- ---- facts by place

module _ {Proc : Type 0} (Fact : Place → Proc → Type 0) where
  abbrev pub EachAt : Procs Proc → Type 0
  EachAt m = (q : Place) (x : Proc) → get m q ≡ Some x → Fact q x

  abbrev FactAt : Place → Option Proc → Type 0
  FactAt q v = (x : Proc) → v ≡ Some x → Fact q x

  altered : (m : Procs Proc) (k : Place) (f : Option Proc → Option Proc) → EachAt m → FactAt k (f (get m k)) → EachAt (alter m k f)
  altered m k f each now q x is = go (eq_by_cmp path_cmp q k) refl (sym (get-alter path_order m k f q) ∙ is)
    where
      go : (b : Bool) → eq_by_cmp path_cmp q k ≡ b → cond b (f (get m q)) (get m q) ≡ Some x → Fact q x
      go true same e = let at = tie path_order q k same in subst (λ r. Fact r x) (sym at) (now x (ap (λ r. f (get m r)) (sym at) ∙ e))
      go false same e = each q x e

  started : (m : Procs Proc) (p : Place) (b j : ℕ) (xs : List Proc) → EachAt m → AllIn (λ x. (i : ℕ) → Fact (child p b i) x) xs → EachAt (alters (start_changes p b j xs) m)
  started m p b j [] each all = each
  started m p b j (x ∷ xs) each all =
      altered (alters (start_changes p b (suc j) xs) m) (child p b j) (λ o. Some x) (started m p b (suc j) xs each all.1)
      (λ y e. subst (Fact (child p b j)) (the_value x y e) (all.0 j))

  module _ (has_ended : Proc → Bool) (emptied : Proc → Proc) (empties : (q : Place) (x : Proc) → has_ended x ≡ true → Fact q x → Fact q (emptied x)) where
    emptied_at : (q : Place) (v : Option Proc) (x : Proc) → v ≡ Some x → has_ended x ≡ true → Fact q x → FactAt q (option_map emptied v)
    emptied_at q v x is done fact y e = subst (Fact q) (the_value (emptied x) y (sym (ap (option_map emptied) is) ∙ e)) (empties q x done fact)

    joined : (m : Procs Proc) (p : Place) (b i n : ℕ) (ys : List Proc) → EachAt m → gathered has_ended m p b i n ≡ Some ys → EachAt (alters (child_changes emptied p b i n) m)
    joined m p b i zero ys each e = each
    joined m p b i (suc n) ys each e =
        let g = first_gathered has_ended m p b i n ys e in
        let rest = alters (child_changes emptied p b (suc i) n) m in
        let at : get rest (child p b i) ≡ Some g.head = alters_there path_order (child_changes emptied p b (suc i) n) m (child p b i) (off_children emptied (child p b i) p b (suc i) n (λ j l h. other_child p b i j (λ e. omega (arith, e, l)))) ∙ g.is in
        altered rest (child p b i) (option_map emptied) (joined m p b (suc i) n g.tail each g.others) (emptied_at (child p b i) (get rest (child p b i)) g.head at g.done (each (child p b i) g.head g.is))

    needed : (m : Procs Proc) (cs : Chans) (p : Place) (need : Need) (r : Reply Proc) → EachAt m → served has_ended m cs p need ≡ Some r → EachAt (alters (need_changes emptied p need) m)
    needed m cs p Nothing r each e = each
    needed m cs p (Event c a) r each e = each
    needed m cs p (New n w) r each e = each
    needed m cs p (Children b n) r each e = let k = served_children has_ended m cs p b n r e in joined m p b 1 n k.0 each k.1

    -- all processes after a step
    pub after_step : (m : Procs Proc) (cs : Chans) (p : Place) (need : Need) (r : Reply Proc) (o : Onward Proc) → EachAt m → served has_ended m cs p need ≡ Some r → Fact p o.self → AllIn (λ x. (i : ℕ) → Fact (child p o.block i) x) o.starts
        → EachAt (alters (changes emptied p need o) m)
    after_step m cs p need r o each e self starts =
        let ss = start_changes p o.block 1 o.starts in
        let ns = need_changes emptied p need in
        altered (alters (ss ++ ns) m) p (λ x. Some o.self) (subst EachAt (sym (alters-append path_order ss ns m)) (started (alters ns m) p o.block 1 o.starts (needed m cs p need r each e) starts))
        (λ y is. subst (Fact p) (the_value o.self y is) self)

-- ---- who is there stays there

module _ {Proc : Type 0} where
  -- the change leaves something where something is
  abbrev Leaves : Change Place Proc → Type 0
  Leaves w = (x : Proc) → (y : Proc) × (w.1 (Some x) ≡ Some y)

  abbrev AllLeave : List (Change Place Proc) → Type 0
  AllLeave [] = Unit {0}
  AllLeave (w ∷ ws) = Leaves w × AllLeave ws

  leave_append : (ws vs : List (Change Place Proc)) → AllLeave ws → AllLeave vs → AllLeave (ws ++ vs)
  leave_append [] vs h k = k
  leave_append (w ∷ ws) vs h k = (h.0, leave_append ws vs h.1 k)

  stays_by : (m : Procs Proc) (k : Place) (f : Option Proc → Option Proc) (q : Place) (x : Proc) → ((x : Proc) → (y : Proc) × (f (Some x) ≡ Some y)) → get m q ≡ Some x → (y : Proc) × (get (alter m k f) q ≡ Some y)
  stays_by m k f q x leaves is = go (eq_by_cmp path_cmp q k) (get-alter path_order m k f q)
    where
      go : (b : Bool) → get (alter m k f) q ≡ cond b (f (get m q)) (get m q) → (y : Proc) × (get (alter m k f) q ≡ Some y)
      go true e = let y = leaves x in (y.0, e ∙ ap f is ∙ y.1)
      go false e = (x, e ∙ is)

  stays_all : (ws : List (Change Place Proc)) (m : Procs Proc) (q : Place) (x : Proc) → AllLeave ws → get m q ≡ Some x → (y : Proc) × (get (alters ws m) q ≡ Some y)
  stays_all [] m q x h is = (x, is)
  stays_all (w ∷ ws) m q x h is = let y = stays_all ws m q x h.1 is in stays_by (alters ws m) w.0 w.1 q y.0 h.0 y.1

  starts_leave : (p : Place) (b j : ℕ) (xs : List Proc) → AllLeave (start_changes p b j xs)
  starts_leave p b j [] = tt
  starts_leave p b j (x ∷ xs) = ((λ y. (x, refl)), starts_leave p b (suc j) xs)

  children_leave : (emptied : Proc → Proc) (p : Place) (b i n : ℕ) → AllLeave (child_changes emptied p b i n)
  children_leave emptied p b i zero = tt
  children_leave emptied p b i (suc n) = ((λ x. (emptied x, refl)), children_leave emptied p b (suc i) n)

  need_leaves : (emptied : Proc → Proc) (p : Place) (need : Need) → AllLeave (need_changes emptied p need)
  need_leaves emptied p Nothing = tt
  need_leaves emptied p (Event c a) = tt
  need_leaves emptied p (New n w) = tt
  need_leaves emptied p (Children b n) = children_leave emptied p b 1 n

  pub still_there : (emptied : Proc → Proc) (m : Procs Proc) (p : Place) (need : Need) (o : Onward Proc) (q : Place) (x : Proc) → get m q ≡ Some x → (y : Proc) × (get (alters (changes emptied p need o) m) q ≡ Some y)
  still_there emptied m p need o q x is =
      let ss = start_changes p o.block 1 o.starts in
      stays_all (changes emptied p need o) m q x ((λ y. (o.self, refl)), leave_append ss (need_changes emptied p need) (starts_leave p o.block 1 o.starts) (need_leaves emptied p need)) is

  start_there : (m : Procs Proc) (p : Place) (b j : ℕ) (xs : List Proc) (i n : ℕ) → i < length xs → n ≡ j + i → (y : Proc) × (get (alters (start_changes p b j xs) m) (child p b n) ≡ Some y)
  start_there m p b j [] i n low e = absurd (omega (arith, low))
  start_there m p b j (x ∷ xs) zero n low e =
      let same : n ≡ j = omega (arith, e) in
      (x, ap (λ k. get (alters (start_changes p b j (x ∷ xs)) m) (child p b k)) same ∙ alter_here path_order (alters (start_changes p b (suc j) xs) m) (child p b j) (λ o. Some x))
  start_there m p b j (x ∷ xs) (suc i) n low e =
      let y = start_there m p b (suc j) xs i n (omega (arith, low)) (omega (arith, e)) in
      stays_by (alters (start_changes p b (suc j) xs) m) (child p b j) (λ o. Some x) (child p b n) y.0 (λ z. (x, refl)) y.1

  -- the children that a step starts are there
  pub starts_there : (emptied : Proc → Proc) (m : Procs Proc) (p : Place) (need : Need) (o : Onward Proc) (i : ℕ) → i < length o.starts → (y : Proc) × (get (alters (changes emptied p need o) m) (child p o.block (suc i)) ≡ Some y)
  starts_there emptied m p need o i low =
      let ss = start_changes p o.block 1 o.starts in
      let ns = need_changes emptied p need in
      let y = start_there (alters ns m) p o.block 1 o.starts i (suc i) low (omega arith) in
      stays_by (alters (ss ++ ns) m) p (λ x. Some o.self) (child p o.block (suc i)) y.0 (λ x. (o.self, refl)) (ap (λ (k : Procs Proc). get k (child p o.block (suc i))) (alters-append path_order ss ns m) ∙ y.1)
