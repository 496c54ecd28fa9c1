-- What a step does to the processes: itself, the children that it starts, and those that it joins.
use Rattle.std.proofs.Common.{◌≡◌, ℕ, zero, suc, ◌+◌, ◌≤◌, Option, Some, None, List, [], ◌∷◌, ◌++◌, Bool, true, false, cond, length, option_map, ◌⊎◌, inl, inr, refl, sym, ap, ◌∙◌, subst, arith}
use Rattle.std.specs.FinMap.{get}
use Rattle.std.specs.Ordering.{eq_by_cmp}
use Rattle.fm_base.specs.PathOrder.{path_cmp}
use Rattle.fm_base.specs.Channels.{Chans}
use Rattle.fm_finmap.specs.Changes.{alters}
use Rattle.fm_finmap.specs.Sums.{total, value_or_zero}
use Rattle.fm_finmap.proofs.Keys.{tie}
use Rattle.fm_finmap.proofs.Alters.{Off-append, alters_there, alter_here, get-alter, alters-append}
use Rattle.fm_finmap.proofs.Sums.{total-alter}
use Rattle.fm_net.specs.Machine.{Place, Procs, Need, Nothing, Event, New, Children, Reply, Onward, child, reply_with, gathered, served, start_changes, child_changes, need_changes, changes}
use Rattle.fm_net.specs.Owned.{present}
use Rattle.fm_net.specs.Lawful.{sum_of}
use Rattle.fm_net.proofs.Keys.{path_order}
use Rattle.fm_net.proofs.Children.{other_child, not_own_child, off_starts, off_children, off_own_need, first_gathered, served_children}
use Rattle.fm_net.proofs.Needs.{no_value, served_event}

module _ {Proc : Type 0} where
  module _ (f : Proc → ℕ) where
    -- the children that start come to the sum
    total_starts : (p : Place) (b j : ℕ) (xs : List Proc) (m : Procs Proc) → ((i : ℕ) → get m (child p b i) ≡ None) → total f (alters (start_changes p b j xs) m) ≡ total f m + sum_of f xs
    total_starts p b j [] m none = omega arith
    total_starts p b j (x ∷ xs) m none =
        let rest = alters (start_changes p b (suc j) xs) m in
        let new : get rest (child p b j) ≡ None = alters_there path_order (start_changes p b (suc j) xs) m (child p b j) (off_starts (child p b j) p b (suc j) xs (λ i l. other_child p b j i (λ e. omega arith))) ∙ none j in
        omega (arith, total_starts p b (suc j) xs m none, total-alter path_order f rest (child p b j) (λ o. Some x), ap (value_or_zero f) new)

    -- what a process that is found has never falls
    rises_starts : (p : Place) (b j : ℕ) (xs : List Proc) (m : Procs Proc) (q : Place) → ((i : ℕ) → get m (child p b i) ≡ None) → value_or_zero f (get m q) ≤ value_or_zero f (get (alters (start_changes p b j xs) m) q)
    rises_starts p b j [] m q none = omega arith
    rises_starts p b j (x ∷ xs) m q none =
        let rest = alters (start_changes p b (suc j) xs) m in
        subst (λ o. value_or_zero f (get m q) ≤ value_or_zero f o) (sym (get-alter path_order rest (child p b j) (λ o. Some x) q)) (go (eq_by_cmp path_cmp q (child p b j)) refl (rises_starts p b (suc j) xs m q none))
      where
        go : (c : Bool) → eq_by_cmp path_cmp q (child p b j) ≡ c → value_or_zero f (get m q) ≤ value_or_zero f (get (alters (start_changes p b (suc j) xs) m) q) → value_or_zero f (get m q) ≤ value_or_zero f (cond c (Some x) (get (alters (start_changes p b (suc j) xs) m) q))
        go true e h = let gone : value_or_zero f (get m q) ≡ 0 = ap (value_or_zero f) (ap (get m) (tie path_order q (child p b j) e) ∙ none j) in omega arith
        go false e h = h

  -- who is there afterwards was there before, or is a child that starts
  appears : (p : Place) (b j : ℕ) (xs : List Proc) (m : Procs Proc) (r : Place) → 1 ≤ present (get (alters (start_changes p b j xs) m) r) → (1 ≤ present (get m r)) ⊎ ((1 ≤ length xs) × ((i : ℕ) × (r ≡ child p b i)))
  appears p b j [] m r h = inl h
  appears p b j (x ∷ xs) m r h =
      go (eq_by_cmp path_cmp r (child p b j)) refl (subst (λ o. 1 ≤ present o) (get-alter path_order (alters (start_changes p b (suc j) xs) m) (child p b j) (λ o. Some x) r) h) (appears p b (suc j) xs m r)
    where
      go : (c : Bool) → eq_by_cmp path_cmp r (child p b j) ≡ c → 1 ≤ present (cond c (Some x) (get (alters (start_changes p b (suc j) xs) m) r))
          → (1 ≤ present (get (alters (start_changes p b (suc j) xs) m) r) → (1 ≤ present (get m r)) ⊎ ((1 ≤ length xs) × ((i : ℕ) × (r ≡ child p b i))))
          → (1 ≤ present (get m r)) ⊎ ((1 ≤ length (x ∷ xs)) × ((i : ℕ) × (r ≡ child p b i)))
      go true e h' more = inr (omega arith, (j, tie path_order r (child p b j) e))
      go false e h' more = elim (more h') [ inl a ↦ inl a | inr a ↦ inr (omega arith, a.1) ]

  module _ (has_ended : Proc → Bool) (emptied : Proc → Proc) where
    total_children : (f : Proc → ℕ) (m : Procs Proc) (p : Place) (b i n : ℕ) (ys : List Proc) → gathered has_ended m p b i n ≡ Some ys → total f (alters (child_changes emptied p b i n) m) + sum_of f ys ≡ total f m + sum_of (λ k. f (emptied k)) ys
    total_children f m p b i zero ys e = let none : ys ≡ [] = cc in omega (arith, ap (sum_of f) none, ap (sum_of (λ k. f (emptied k))) none)
    total_children f m p b i (suc n) ys e =
        let g = first_gathered has_ended m p b i n ys e in
        let rest = alters (child_changes emptied p b (suc i) n) m in
        let here : get rest (child p b i) ≡ Some g.head = alters_there path_order (child_changes emptied p b (suc i) n) m (child p b i) (off_children emptied (child p b i) p b (suc i) n (λ j l h. other_child p b i j (λ e. omega arith))) ∙ g.is in
        omega (arith, total_children f m p b (suc i) n g.tail g.others, total-alter path_order f rest (child p b i) (option_map emptied), ap (value_or_zero f) here, ap (λ o. value_or_zero f (option_map emptied o)) here, ap (sum_of f) g.all, ap (sum_of (λ k. f (emptied k))) g.all)

    total_need : (f : Proc → ℕ) (m : Procs Proc) (cs : Chans) (p : Place) (need : Need) (r : Reply Proc) → served has_ended m cs p need ≡ Some r → total f (alters (need_changes emptied p need) m) + sum_of f r.children ≡ total f m + sum_of (λ k. f (emptied k)) r.children
    total_need f m cs p Nothing r e = let none : reply_with [] ≡ r = cc in omega (arith, ap (λ (r : Reply Proc). sum_of f r.children) none, ap (λ (r : Reply Proc). sum_of (λ k. f (emptied k)) r.children) none)
    total_need f m cs p (New n w) r e = let none : reply_with [] ≡ r = cc in omega (arith, ap (λ (r : Reply Proc). sum_of f r.children) none, ap (λ (r : Reply Proc). sum_of (λ k. f (emptied k)) r.children) none)
    total_need f m cs p (Event c a) r e =
        let h = served_event a (get cs c) r e in
        let none : r.children ≡ [] = ap (λ (r : Reply Proc). r.children) h.3 in
        omega (arith, ap (sum_of f) none, ap (sum_of (λ k. f (emptied k))) none)
    total_need f m cs p (Children b n) r e =
        let k = served_children has_ended m cs p b n r e in
        omega (arith, total_children f m p b 1 n k.0 k.1, ap (λ (r : Reply Proc). sum_of f r.children) k.2, ap (λ (r : Reply Proc). sum_of (λ k. f (emptied k)) r.children) k.2)

    -- joining keeps what `emptied` keeps
    same_children : (f : Proc → ℕ) → ((x : Proc) → f (emptied x) ≡ f x) → (m : Procs Proc) (p : Place) (b i n : ℕ) (q : Place) → value_or_zero f (get (alters (child_changes emptied p b i n) m) q) ≡ value_or_zero f (get m q)
    same_children f same m p b i zero q = refl
    same_children f same m p b i (suc n) q =
        let rest = alters (child_changes emptied p b (suc i) n) m in
        ap (value_or_zero f) (get-alter path_order rest (child p b i) (option_map emptied) q) ∙ go (eq_by_cmp path_cmp q (child p b i)) (get rest q) ∙ same_children f same m p b (suc i) n q
      where
        go : (c : Bool) (o : Option Proc) → value_or_zero f (cond c (option_map emptied o) o) ≡ value_or_zero f o
        go true None = refl
        go true (Some x) = same x
        go false o = refl

    same_need : (f : Proc → ℕ) → ((x : Proc) → f (emptied x) ≡ f x) → (m : Procs Proc) (p : Place) (need : Need) (q : Place) → value_or_zero f (get (alters (need_changes emptied p need) m) q) ≡ value_or_zero f (get m q)
    same_need f same m p Nothing q = refl
    same_need f same m p (Event c a) q = refl
    same_need f same m p (New n w) q = refl
    same_need f same m p (Children b n) q = same_children f same m p b 1 n q

    none_need : (m : Procs Proc) (p r : Place) (need : Need) → get m r ≡ None → get (alters (need_changes emptied p need) m) r ≡ None
    none_need m p r need h = no_value _ (λ g. let e = same_need (λ x. 1) (λ x. refl) m p need r in let z : present (get m r) ≡ 0 = ap (value_or_zero (λ x. 1)) h in omega arith)

    module _ (m : Procs Proc) (cs : Chans) (p : Place) (need : Need) (r : Reply Proc) (o : Onward Proc) (self : Proc) (is : get m p ≡ Some self) (serves : served has_ended m cs p need ≡ Some r)
        (none : (i : ℕ) → get m (child p o.block i) ≡ None) where
      joined : Procs Proc
      joined = alters (need_changes emptied p need) m

      none_joined : (i : ℕ) → get joined (child p o.block i) ≡ None
      unfolding joined
      none_joined i = none_need m p (child p o.block i) need (none i)

      others : get (alters (start_changes p o.block 1 o.starts ++ need_changes emptied p need) m) p ≡ Some self
      others = alters_there path_order (start_changes p o.block 1 o.starts ++ need_changes emptied p need) m p (Off-append p (start_changes p o.block 1 o.starts) (need_changes emptied p need) (off_starts p p o.block 1 o.starts (λ i l. not_own_child p (o.block, i))) (off_own_need emptied p need)) ∙ is

      pub total_changes : (f : Proc → ℕ) → total f (alters (changes emptied p need o) m) + f self + sum_of f r.children ≡ total f m + f o.self + sum_of f o.starts + sum_of (λ k. f (emptied k)) r.children
      unfolding joined
      total_changes f = omega (
        arith,
        total-alter path_order f (alters (start_changes p o.block 1 o.starts ++ need_changes emptied p need) m) p (λ x. Some o.self),
        ap (value_or_zero f) others,
        ap (total f) (alters-append path_order (start_changes p o.block 1 o.starts) (need_changes emptied p need) m),
        total_starts f p o.block 1 o.starts joined none_joined,
        total_need f m cs p need r serves,
      )

      pub here : get (alters (changes emptied p need o) m) p ≡ Some o.self
      here = alter_here path_order (alters (start_changes p o.block 1 o.starts ++ need_changes emptied p need) m) p (λ x. Some o.self)

      -- nobody else's number falls, and the process's own is its new one
      pub rises : (f : Proc → ℕ) → ((x : Proc) → f (emptied x) ≡ f x) → f self ≤ f o.self → (q : Place) → value_or_zero f (get m q) ≤ value_or_zero f (get (alters (changes emptied p need o) m) q)
      unfolding joined
      rises f same up q = subst (λ v. value_or_zero f (get m q) ≤ value_or_zero f v) (sym (get-alter path_order (alters (start_changes p o.block 1 o.starts ++ need_changes emptied p need) m) p (λ x. Some o.self) q)) (go (eq_by_cmp path_cmp q p) refl)
        where
          go : (c : Bool) → eq_by_cmp path_cmp q p ≡ c → value_or_zero f (get m q) ≤ value_or_zero f (cond c (Some o.self) (get (alters (start_changes p o.block 1 o.starts ++ need_changes emptied p need) m) q))
          go true e = let at : value_or_zero f (get m q) ≡ f self = ap (value_or_zero f) (ap (get m) (tie path_order q p e) ∙ is) in omega arith
          go false e = omega (arith, rises_starts f p o.block 1 o.starts joined q none_joined, same_need f same m p need q, ap (λ w. value_or_zero f (get w q)) (alters-append path_order (start_changes p o.block 1 o.starts) (need_changes emptied p need) m))

      pub comes : (q : Place) → 1 ≤ present (get (alters (changes emptied p need o) m) q) → (1 ≤ present (get m q)) ⊎ ((1 ≤ length o.starts) × ((i : ℕ) × (q ≡ child p o.block i)))
      unfolding joined
      comes q h = go (eq_by_cmp path_cmp q p) refl (subst (λ v. 1 ≤ present v) (get-alter path_order (alters (start_changes p o.block 1 o.starts ++ need_changes emptied p need) m) p (λ x. Some o.self) q) h)
        where
          go : (c : Bool) → eq_by_cmp path_cmp q p ≡ c → 1 ≤ present (cond c (Some o.self) (get (alters (start_changes p o.block 1 o.starts ++ need_changes emptied p need) m) q)) → (1 ≤ present (get m q)) ⊎ ((1 ≤ length o.starts) × ((i : ℕ) × (q ≡ child p o.block i)))
          go true e h' = let at : present (get m q) ≡ 1 = ap present (ap (get m) (tie path_order q p e) ∙ is) in inl (omega arith)
          go false e h' = elim (appears p o.block 1 o.starts joined q (subst (λ w. 1 ≤ present (get w q)) (alters-append path_order (start_changes p o.block 1 o.starts) (need_changes emptied p need) m) h')) [
            | inl a ↦ inl (omega (arith, same_need (λ x. 1) (λ x. refl) m p need q))
            | inr a ↦ inr a
          ]
