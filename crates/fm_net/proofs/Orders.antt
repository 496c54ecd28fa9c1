-- Every process has one number in the order of starting.
use Rattle.std.proofs.Common.{◌≡◌, ◌⊎◌, inl, inr, ℕ, zero, suc, ◌+◌, ◌≤◌, Option, Some, None, List, [], ◌∷◌, ◌++◌, length, replicate, option_map, refl, sym, ap, ◌∙◌, subst, arith, append_assoc, append-nil}
use Rattle.std.specs.Prelude.{slice_get}
use Rattle.std.proofs.lemmas.Grind.{replicate_next}
use Rattle.std.specs.FinMap.{get, empty, get-empty}
use Rattle.fm_base.specs.PathOrder.{path_cmp}
use Rattle.fm_finmap.specs.Changes.{Change, alter, alters}
use Rattle.fm_finmap.proofs.Keys.{decide}
use Rattle.fm_finmap.proofs.Alters.{alter_here, alter_there, alters-append}
use Rattle.fm_finmap.proofs.Inserts.{insert_cases, insert_here}
use Rattle.fm_sched.specs.Schedule.{Can, next, play, IsLegal}
use Rattle.fm_net.specs.Machine.{Place, Procs, State, Need, Nothing, Event, New, Children, Onward, child, changes, start_changes, child_changes, need_changes, made}
use Rattle.fm_net.specs.Language.{Language, language_step}
use Rattle.fm_net.specs.Owned.{IsOwned, main_alone}
use Rattle.fm_net.specs.Lawful.{IsLawfulAsk, IsLawfulStep, IsLawfulLanguage}
use Rattle.fm_net.specs.Starts.{Among, child_places, starts_by, starts_at, starts_along, starts_of}
use Rattle.fm_net.proofs.Keys.{path_order}
use Rattle.fm_net.proofs.Children.{other_child}
use Rattle.fm_net.proofs.First.{main_owned}
use Rattle.fm_net.proofs.Needs.{no_value}
use Rattle.fm_net.proofs.Steps.{step_keeps}
use Rattle.fm_finmap.specs.Sums.{value_or_zero}
use Rattle.fm_net.proofs.Taken.{Starts, out_of, onward_is, no_onward, state_is, start_of}

-- ---- lists

-- each is once in the list
abbrev pub EachOnce : {X : Type 0} → List X → Type 0
EachOnce [] = Unit {0}
EachOnce (x ∷ xs) = (Among x xs → ⊥) × EachOnce xs

module _ {X : Type 0} where
  pub among_left : (x : X) (xs ys : List X) → Among x xs → Among x (xs ++ ys)
  among_left x [] ys is = absurd is
  among_left x (y ∷ xs) ys (inl e) = inl e
  among_left x (y ∷ xs) ys (inr is) = inr (among_left x xs ys is)

  pub among_right : (x : X) (xs ys : List X) → Among x ys → Among x (xs ++ ys)
  among_right x [] ys is = is
  among_right x (y ∷ xs) ys is = inr (among_right x xs ys is)

  pub among_either : (x : X) (xs ys : List X) → Among x (xs ++ ys) → Among x xs ⊎ Among x ys
  among_either x [] ys is = inr is
  among_either x (y ∷ xs) ys (inl e) = inl (inl e)
  among_either x (y ∷ xs) ys (inr is) = elim (among_either x xs ys is) [ inl h ↦ inl (inr h) | inr h ↦ inr h ]

  pub among_place : (x : X) (xs : List X) → Among x xs → (n : ℕ) × (slice_get xs n ≡ Some x)
  among_place x [] is = absurd is
  among_place x (y ∷ xs) (inl e) = (0, ap Some (sym e))
  among_place x (y ∷ xs) (inr is) = let k = among_place x xs is in (suc k.0, k.1)

  pub place_among : (x : X) (xs : List X) (n : ℕ) → slice_get xs n ≡ Some x → Among x xs
  place_among x [] n is = absurd (cc is)
  place_among x (y ∷ xs) zero is = inl (cc is)
  place_among x (y ∷ xs) (suc n) is = inr (place_among x xs n is)

  once_append : (xs ys : List X) → EachOnce xs → EachOnce ys → ((x : X) → Among x xs → Among x ys → ⊥) → EachOnce (xs ++ ys)
  once_append [] ys h g apart = g
  once_append (x ∷ xs) ys h g apart = (
    (λ is. elim (among_either x xs ys is) [ inl a ↦ h.0 a | inr a ↦ apart x (inl refl) a ]),
    once_append xs ys h.1 g (λ z a b. apart z (inr a) b),
  )

  pub one_number : (x : X) (xs : List X) (n m : ℕ) → EachOnce xs → slice_get xs n ≡ Some x → slice_get xs m ≡ Some x → n ≡ m
  one_number x [] n m once e f = absurd (cc e)
  one_number x (y ∷ xs) zero zero once e f = refl
  one_number x (y ∷ xs) zero (suc m) once e f = let same : y ≡ x = cc e in absurd (once.0 (subst (λ z. Among z xs) (sym same) (place_among x xs m f)))
  one_number x (y ∷ xs) (suc n) zero once e f = let same : y ≡ x = cc f in absurd (once.0 (subst (λ z. Among z xs) (sym same) (place_among x xs n e)))
  one_number x (y ∷ xs) (suc n) (suc m) once e f = ap suc (one_number x xs n m once.1 e f)

-- ---- the children of a block

pub child_among : (p q : Place) (b i n : ℕ) → Among q (child_places p b i n) → (j : ℕ) × (i ≤ j) × (q ≡ child p b j)
child_among p q b i zero is = absurd is
child_among p q b i (suc n) (inl e) = (i, omega arith, e)
child_among p q b i (suc n) (inr is) = let k = child_among p q b (suc i) n is in (k.0, omega (arith, k.1), k.2)

children_once : (p : Place) (b i n : ℕ) → EachOnce (child_places p b i n)
children_once p b i zero = tt
children_once p b i (suc n) = (
  (λ is. let k = child_among p (child p b i) b (suc i) n is in other_child p b i k.0 (λ e. omega (arith, k.1)) k.2),
  children_once p b (suc i) n,
)

child_places_snoc : (p : Place) (b i n : ℕ) → child_places p b i (suc n) ≡ child_places p b i n ++ child p b (n + i) ∷ []
child_places_snoc p b i zero = ap (λ (j : ℕ). child p b j ∷ []) (omega arith)
child_places_snoc p b i (suc n) = ap (λ ps. child p b i ∷ ps) (child_places_snoc p b (suc i) n ∙ ap (λ (j : ℕ). child_places p b (suc i) n ++ child p b j ∷ []) (omega arith))

-- one child more
pub child_places_more : (p : Place) (b n : ℕ) → child_places p b 1 n ++ child p b (n + 1) ∷ [] ≡ child_places p b 1 (n + 1)
child_places_more p b n =
    let next : suc n ≡ n + 1 = omega arith in
    sym (child_places_snoc p b 1 n) ∙ ap (λ (k : ℕ). child_places p b 1 k) next

-- ---- who comes, and who stays

module _ {Proc : Type 0} where
  abbrev Stands : Procs Proc → Place → Type 0
  Stands m q = (x : Proc) × (get m q ≡ Some x)

  -- after a change there is nobody new but at its place
  changed_there : (m : Procs Proc) (k q : Place) (f : Option Proc → Option Proc) (y : Proc) → get (alter m k f) q ≡ Some y → ((q ≡ k) × (f (get m k) ≡ Some y)) ⊎ (get m q ≡ Some y)
  changed_there m k q f y is = elim (decide path_order q k) [
    | yes e ↦ inl (e, sym (ap (get (alter m k f)) e ∙ alter_here path_order m k f) ∙ is)
    | no n ↦ inr (sym (alter_there path_order m k f q n) ∙ is)
  ]

  -- a change that takes nobody away
  abbrev Leaves : Change Place Proc → Type 0
  Leaves w = (o : Option Proc) (x : Proc) → o ≡ Some x → (y : Proc) × (w.1 o ≡ Some y)

  abbrev AllLeave : List (Change Place Proc) → Type 0
  AllLeave [] = Unit {0}
  AllLeave (w ∷ ws) = Leaves w × AllLeave ws

  leave_append : (ws vs : List (Change Place Proc)) → AllLeave ws → AllLeave vs → AllLeave (ws ++ vs)
  leave_append [] vs h g = g
  leave_append (w ∷ ws) vs h g = (h.0, leave_append ws vs h.1 g)

  stands_after : (ws : List (Change Place Proc)) (m : Procs Proc) (q : Place) → AllLeave ws → Stands m q → Stands (alters ws m) q
  stands_after [] m q h stands = stands
  stands_after (w ∷ ws) m q h stands = elim (decide path_order q w.0) [
    | yes e ↦
        let rest = stands_after ws m q h.1 stands in
        let k = h.0 (get (alters ws m) w.0) rest.0 (ap (get (alters ws m)) (sym e) ∙ rest.1) in
        (k.0, ap (get (alter (alters ws m) w.0 w.1)) e ∙ alter_here path_order (alters ws m) w.0 w.1 ∙ k.1)
    | no n ↦ let rest = stands_after ws m q h.1 stands in (rest.0, alter_there path_order (alters ws m) w.0 w.1 q n ∙ rest.1)
  ]

  starts_leave : (p : Place) (b i : ℕ) (xs : List Proc) → AllLeave (start_changes p b i xs)
  starts_leave p b i [] = tt
  starts_leave p b i (x ∷ xs) = ((λ o y e. (x, refl)), starts_leave p b (suc i) xs)

  starts_stand : (m : Procs Proc) (p q : Place) (b i : ℕ) (xs : List Proc) → Among q (child_places p b i (length xs)) → Stands (alters (start_changes p b i xs) m) q
  starts_stand m p q b i [] is = absurd is
  starts_stand m p q b i (x ∷ xs) (inl e) = (x, ap (get (alters (start_changes p b i (x ∷ xs)) m)) e ∙ alter_here path_order (alters (start_changes p b (suc i) xs) m) (child p b i) (λ o. Some x))
  starts_stand m p q b i (x ∷ xs) (inr is) = stands_after ((child p b i, λ o. Some x) ∷ []) (alters (start_changes p b (suc i) xs) m) q ((λ o y e. (x, refl)), tt) (starts_stand m p q b (suc i) xs is)

  starts_came : (m : Procs Proc) (p q : Place) (b i : ℕ) (xs : List Proc) (y : Proc) → get (alters (start_changes p b i xs) m) q ≡ Some y → Stands m q ⊎ Among q (child_places p b i (length xs))
  starts_came m p q b i [] y is = inl (y, is)
  starts_came m p q b i (x ∷ xs) y is = elim (changed_there (alters (start_changes p b (suc i) xs) m) (child p b i) q (λ o. Some x) y is) [
    | inl h ↦ inr (inl h.0)
    | inr h ↦ elim (starts_came m p q b (suc i) xs y h) [ inl k ↦ inl k | inr k ↦ inr (inr k) ]
  ]

  module _ (emptied : Proc → Proc) where
    was_there : (o : Option Proc) (y : Proc) → option_map emptied o ≡ Some y → (x : Proc) × (o ≡ Some x)
    was_there None y e = absurd (cc e)
    was_there (Some x) y e = (x, refl)

    emptied_there : (o : Option Proc) (x : Proc) → o ≡ Some x → (y : Proc) × (option_map emptied o ≡ Some y)
    emptied_there o x e = (emptied x, ap (option_map emptied) e)

    children_came : (m : Procs Proc) (p q : Place) (b i n : ℕ) (y : Proc) → get (alters (child_changes emptied p b i n) m) q ≡ Some y → Stands m q
    children_came m p q b i zero y is = (y, is)
    children_came m p q b i (suc n) y is =
        let rest = alters (child_changes emptied p b (suc i) n) m in
        elim (changed_there rest (child p b i) q (option_map emptied) y is) [
          | inl h ↦ let x = was_there (get rest (child p b i)) y h.1 in children_came m p q b (suc i) n x.0 (ap (get rest) h.0 ∙ x.1)
          | inr h ↦ children_came m p q b (suc i) n y h
        ]

    children_leave : (p : Place) (b i n : ℕ) → AllLeave (child_changes emptied p b i n)
    children_leave p b i zero = tt
    children_leave p b i (suc n) = (emptied_there, children_leave p b (suc i) n)

    need_came : (m : Procs Proc) (p q : Place) (need : Need) (y : Proc) → get (alters (need_changes emptied p need) m) q ≡ Some y → Stands m q
    need_came m p q Nothing y is = (y, is)
    need_came m p q (Event c a) y is = (y, is)
    need_came m p q (New n k) y is = (y, is)
    need_came m p q (Children b n) y is = children_came m p q b 1 n y is

    need_leaves : (p : Place) (need : Need) → AllLeave (need_changes emptied p need)
    need_leaves p Nothing = tt
    need_leaves p (Event c a) = tt
    need_leaves p (New n k) = tt
    need_leaves p (Children b n) = children_leave p b 1 n

    module _ (m : Procs Proc) (p : Place) (need : Need) (o : Onward Proc) where
      abbrev others : List (Change Place Proc)
      others = start_changes p o.block 1 o.starts ++ need_changes emptied p need

      changes_leave : AllLeave (changes emptied p need o)
      changes_leave = ((λ v y e. (o.self, refl)), leave_append (start_changes p o.block 1 o.starts) (need_changes emptied p need) (starts_leave p o.block 1 o.starts) (need_leaves p need))

      changes_came : (x : Proc) → get m p ≡ Some x → (q : Place) (y : Proc) → get (alters (changes emptied p need o) m) q ≡ Some y → Stands m q ⊎ Among q (child_places p o.block 1 (length o.starts))
      changes_came x at q y is = elim (changed_there (alters others m) p q (λ v. Some o.self) y is) [
        | inl h ↦ inl (x, ap (get m) h.0 ∙ at)
        | inr h ↦ elim (starts_came (alters (need_changes emptied p need) m) p q o.block 1 o.starts y (ap (λ n. get n q) (sym (alters-append path_order (start_changes p o.block 1 o.starts) (need_changes emptied p need) m)) ∙ h)) [
          | inl k ↦ inl (need_came m p q need k.0 k.1)
          | inr k ↦ inr k
        ]
      ]

      changes_start : (q : Place) → Among q (child_places p o.block 1 (length o.starts)) → Stands (alters (changes emptied p need o) m) q
      changes_start q is =
          stands_after ((p, λ v. Some o.self) ∷ []) (alters others m) q ((λ v y e. (o.self, refl)), tt)
          (subst (λ n. Stands n q) (sym (alters-append path_order (start_changes p o.block 1 o.starts) (need_changes emptied p need) m)) (starts_stand (alters (need_changes emptied p need) m) p q o.block 1 o.starts is))

-- ---- by a step

module _ {Proc : Type 0} (language : Language Proc) where
  abbrev step : State Proc → Place → Option (State Proc × ℕ)
  step = language_step language

  module _ (s : State Proc) (p : Place) where
    pub starts_served : (t : Starts language s p) → starts_at language s p ≡ child_places p (out_of language s p t).block 1 (length (out_of language s p t).starts)
    starts_served t = ap (starts_by p) (onward_is language s p t)

    pub starts_unserved : step s p ≡ None → starts_at language s p ≡ []
    starts_unserved none = ap (starts_by p) (no_onward language s p none)

    pub came : Can step s p → (q : Place) (y : Proc) → get (next step s p).procs q ≡ Some y → Stands s.procs q ⊎ Among q (starts_at language s p)
    came can q y is =
        let t = start_of language s p can in
        subst (λ ps. Stands s.procs q ⊎ Among q ps) (sym (starts_served t))
        (changes_came language.emptied s.procs p t.need (out_of language s p t) t.self t.is q y (ap (λ (u : State Proc). get u.procs q) (sym (state_is language s p t)) ∙ is))

    pub still_stands : Can step s p → (q : Place) → Stands s.procs q → Stands (next step s p).procs q
    still_stands can q stands =
        let t = start_of language s p can in
        subst (λ (u : State Proc). Stands u.procs q) (sym (state_is language s p t))
        (stands_after (changes language.emptied p t.need (out_of language s p t)) s.procs q (changes_leave language.emptied s.procs p t.need (out_of language s p t)) stands)

    pub started : Can step s p → (q : Place) → Among q (starts_at language s p) → Stands (next step s p).procs q
    started can q is =
        let t = start_of language s p can in
        subst (λ (u : State Proc). Stands u.procs q) (sym (state_is language s p t))
        (changes_start language.emptied s.procs p t.need (out_of language s p t) q (subst (Among q) (starts_served t) is))

  -- ---- along choices

  pub starts-append : (s : State Proc) (cs ds : List Place) → starts_along language s (cs ++ ds) ≡ starts_along language s cs ++ starts_along language (play step s cs) ds
  starts-append s [] ds = refl
  starts-append s (c ∷ cs) ds =
      ap (λ ps. starts_at language s c ++ ps) (starts-append (next step s c) cs ds)
      ∙ sym (append_assoc (starts_at language s c) (starts_along language (next step s c) cs) (starts_along language (play step (next step s c) cs) ds))

  pub starts_more : (s : State Proc) (cs ds : List Place) → starts_of language s (cs ++ ds) ≡ starts_of language s cs ++ starts_along language (play step s cs) ds
  starts_more s cs ds = ap (λ ps. [] ∷ ps) (starts-append s cs ds)

  pub starts-push : (s : State Proc) (cs : List Place) (p : Place) → starts_along language s (cs ++ p ∷ []) ≡ starts_along language s cs ++ starts_at language (play step s cs) p
  starts-push s cs p = starts-append s cs (p ∷ []) ∙ ap (λ ps. starts_along language s cs ++ ps) (append-nil (starts_at language (play step s cs) p))

  pub starts-replicate : (s : State Proc) (n : ℕ) (p : Place) → starts_along language s (replicate (n + 1) p) ≡ starts_along language s (replicate n p) ++ starts_at language (play step s (replicate n p)) p
  starts-replicate s n p = ap (starts_along language s) (replicate_next n p) ∙ starts-push s (replicate n p) p

  along_came : (s : State Proc) (cs : List Place) → IsLegal step s cs → (q : Place) (y : Proc) → get (play step s cs).procs q ≡ Some y → Stands s.procs q ⊎ Among q (starts_along language s cs)
  along_came s [] legal q y is = inl (y, is)
  along_came s (c ∷ cs) legal q y is = elim (along_came (next step s c) cs legal.1 q y is) [
    | inl h ↦ elim (came s c legal.0 q h.0 h.1) [ inl k ↦ inl k | inr k ↦ inr (among_left q (starts_at language s c) (starts_along language (next step s c) cs) k) ]
    | inr h ↦ inr (among_right q (starts_at language s c) (starts_along language (next step s c) cs) h)
  ]

  along_stands : (s : State Proc) (cs : List Place) → IsLegal step s cs → (q : Place) → Stands s.procs q → Stands (play step s cs).procs q
  along_stands s [] legal q stands = stands
  along_stands s (c ∷ cs) legal q stands = along_stands (next step s c) cs legal.1 q (still_stands s c legal.0 q stands)

  along_started : (s : State Proc) (cs : List Place) → IsLegal step s cs → (q : Place) → Among q (starts_along language s cs) → Stands (play step s cs).procs q
  along_started s [] legal q is = absurd is
  along_started s (c ∷ cs) legal q is = elim (among_either q (starts_at language s c) (starts_along language (next step s c) cs) is) [
    | inl h ↦ along_stands (next step s c) cs legal.1 q (started s c legal.0 q h)
    | inr h ↦ along_started (next step s c) cs legal.1 q h
  ]

  -- ---- from main alone

  module _ (x : Proc) where
    abbrev start : State Proc
    start = main_alone x

    abbrev nobody_yet : Procs Proc
    nobody_yet = empty

    only_main : (q : Place) (y : Proc) → get start.procs q ≡ Some y → q ≡ []
    only_main q y is = elim (insert_cases path_order nobody_yet [] x q y is) [
      | inl h ↦ h.0
      | inr h ↦ absurd (cc (sym (get-empty path_cmp q) ∙ h.1))
    ]

    main_stands : Stands start.procs []
    main_stands = (x, insert_here path_order nobody_yet [] x)

    -- each process is one of those that started
    pub all_started : (cs : List Place) → IsLegal step start cs → (q : Place) (y : Proc) → get (play step start cs).procs q ≡ Some y → Among q (starts_of language start cs)
    all_started cs legal q y is = elim (along_came start cs legal q y is) [ inl h ↦ inl (only_main q h.0 h.1) | inr h ↦ inr h ]

    pub everybody : (cs : List Place) → IsLegal step start cs → (q : Place) (y : Proc) → get (play step start cs).procs q ≡ Some y → (n : ℕ) × (slice_get (starts_of language start cs) n ≡ Some q)
    everybody cs legal q y is = among_place q (starts_of language start cs) (all_started cs legal q y is)

    -- and who started is still there
    pub all_stand : (cs : List Place) → IsLegal step start cs → (n : ℕ) (q : Place) → slice_get (starts_of language start cs) n ≡ Some q → (y : Proc) × (get (play step start cs).procs q ≡ Some y)
    all_stand cs legal n q is = elim (place_among q (starts_of language start cs) n is) [
      | inl e ↦ subst (Stands (play step start cs).procs) (sym e) (along_stands start cs legal [] main_stands)
      | inr h ↦ along_started start cs legal q h
    ]

  -- ---- nobody starts twice

  module _ (laws : IsLawfulLanguage language) where
    pub new_child : (s : State Proc) (p : Place) → IsOwned language s → (t : Starts language s p) (i : ℕ) → get s.procs (child p (out_of language s p t).block i) ≡ None
    new_child s p owned t i =
        let law : IsLawfulStep language t.self t.need t.goes = subst (IsLawfulAsk language t.self) t.asks (laws.goes t.self) in
        let number = law.block_is (made p t.need) t.reply in
        no_value _ (λ h. let born = owned.born p (out_of language s p t).block i h in
        let below : value_or_zero language.next_block (get s.procs p) ≡ language.next_block t.self = ap (value_or_zero language.next_block) t.is in omega arith)

    new_at : (s : State Proc) (p : Place) → IsOwned language s → Can step s p → (q : Place) → Among q (starts_at language s p) → Stands s.procs q → ⊥
    new_at s p owned can q is stands =
        let t = start_of language s p can in
        let k = child_among p q (out_of language s p t).block 1 (length (out_of language s p t).starts) (subst (Among q) (starts_served s p t) is) in
        cc (stands.1, ap (get s.procs) k.2, new_child s p owned t k.0)

    once_at : (s : State Proc) (p : Place) → Can step s p → EachOnce (starts_at language s p)
    once_at s p can =
        let t = start_of language s p can in
        subst EachOnce (sym (starts_served s p t)) (children_once p (out_of language s p t).block 1 (length (out_of language s p t).starts))

    new_along : (s : State Proc) (cs : List Place) → IsOwned language s → IsLegal step s cs → (q : Place) → Among q (starts_along language s cs) → Stands s.procs q → ⊥
    new_along s [] owned legal q is stands = is
    new_along s (c ∷ cs) owned legal q is stands = elim (among_either q (starts_at language s c) (starts_along language (next step s c) cs) is) [
      | inl h ↦ new_at s c owned legal.0 q h stands
      | inr h ↦ new_along (next step s c) cs (step_keeps language laws s c owned legal.0) legal.1 q h (still_stands s c legal.0 q stands)
    ]

    once_along : (s : State Proc) (cs : List Place) → IsOwned language s → IsLegal step s cs → EachOnce (starts_along language s cs)
    once_along s [] owned legal = tt
    once_along s (c ∷ cs) owned legal =
        let owned_next = step_keeps language laws s c owned legal.0 in
        once_append (starts_at language s c) (starts_along language (next step s c) cs) (once_at s c legal.0) (once_along (next step s c) cs owned_next legal.1)
        (λ q h g. new_along (next step s c) cs owned_next legal.1 q g (started s c legal.0 q h))

    pub one_number_each : (x : Proc) → language.held x ≡ [] → (cs : List Place) → IsLegal step (main_alone x) cs → (n m : ℕ) (q : Place) → slice_get (starts_of language (main_alone x) cs) n ≡ Some q → slice_get (starts_of language (main_alone x) cs) m ≡ Some q → n ≡ m
    one_number_each x none cs legal n m q e f =
        let owned = main_owned language x none in
        one_number q (starts_of language (main_alone x) cs) n m
        ((λ h. new_along (main_alone x) cs owned legal [] h (main_stands x)), once_along (main_alone x) cs owned legal) e f
