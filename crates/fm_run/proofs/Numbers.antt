-- Numbers of processes in a list.
use Rattle.std.proofs.Common.{◌≡◌, ◌⊎◌, ◌≢◌, inl, inr, ℕ, zero, suc, ◌+◌, ◌<◌, ◌≤◌, Bool, true, false, cond, not, ◌==◌, ◌&&◌, ◌||◌, Option, Some, None, List, [], ◌∷◌, ◌++◌, length, get_or, filter, refl, sym, ap, ◌∙◌, subst, arith, eqb-true, eq-eqb}
use Rattle.std.specs.Prelude.{slice_get}
use Rattle.std.specs.List.{range_with_len}
use Rattle.std.proofs.lemmas.Bool.{ne_eqb}
use Rattle.std.proofs.lemmas.List.Elements.{filter-append}
use Rattle.std.proofs.lemmas.List.Folds.{list_any-append}
use Rattle.fm_run.specs.Orders.{Among, EachOnce, AreMarked, place_chosen, chosen, is_among, others_in, is_new, in_turn}
use native.Mathlib.Decide.{ℕ_discrete}

pub among_left : (n : ℕ) (xs ys : List ℕ) → Among n xs → Among n (xs ++ ys)
among_left n [] ys h = absurd h
among_left n (x ∷ xs) ys (inl e) = inl e
among_left n (x ∷ xs) ys (inr h) = inr (among_left n xs ys h)

pub among_right : (n : ℕ) (xs ys : List ℕ) → Among n ys → Among n (xs ++ ys)
among_right n [] ys h = h
among_right n (x ∷ xs) ys h = inr (among_right n xs ys h)

-- ---- who is chosen

pub among_get : (xs : List ℕ) (k n : ℕ) → slice_get xs k ≡ Some n → Among n xs
among_get [] k n is = absurd (cc is)
among_get (x ∷ xs) zero n is = inl (let same : x ≡ n = cc is in sym same)
among_get (x ∷ xs) (suc k) n is = inr (among_get xs k n is)

some_get : (xs : List ℕ) (k : ℕ) → k < length xs → (n : ℕ) × (slice_get xs k ≡ Some n)
some_get [] k low = absurd (omega arith)
some_get (x ∷ xs) zero low = (x, refl)
some_get (x ∷ xs) (suc k) low = some_get xs k (omega arith)

-- the place is one of those
pub place_within : (choice : Option ℕ) (count : ℕ) → 0 < count → place_chosen choice count < count
place_within None count some = some
place_within (Some n) count some = omega arith

-- none is chosen only where there is none
pub none_chosen : (choice : Option ℕ) (able : List ℕ) → chosen choice able ≡ None → able ≡ []
none_chosen choice [] none = refl
none_chosen choice (n ∷ able) none =
    let who = some_get (n ∷ able) (place_chosen choice (length (n ∷ able))) (place_within choice (length (n ∷ able)) (omega arith)) in
    absurd (cc (sym none ∙ who.1))

-- ---- those that pass a test

pub among_filter : (p : ℕ → Bool) (xs : List ℕ) (n : ℕ) → Among n xs → p n ≡ true → Among n (filter p xs)
among_filter p [] n h pass = absurd h
among_filter p (x ∷ xs) n (inl e) pass = subst (λ (b : Bool). Among n (cond b (x ∷ filter p xs) (filter p xs))) (sym (ap p (sym e) ∙ pass)) (inl e)
among_filter p (x ∷ xs) n (inr h) pass = go (among_filter p xs n h pass) (p x)
  where
    go : Among n (filter p xs) → (b : Bool) → Among n (cond b (x ∷ filter p xs) (filter p xs))
    go rest true = inr rest
    go rest false = rest

pub filter_among : (p : ℕ → Bool) (xs : List ℕ) (n : ℕ) → Among n (filter p xs) → p n ≡ true
filter_among p [] n h = absurd h
filter_among p (x ∷ xs) n h = go (λ h'. filter_among p xs n h') (p x) refl h
  where
    go : (Among n (filter p xs) → p n ≡ true) → (b : Bool) → p x ≡ b → Among n (cond b (x ∷ filter p xs) (filter p xs)) → p n ≡ true
    go rest true e (inl same) = ap p same ∙ e
    go rest true e (inr h') = rest h'
    go rest false e h' = rest h'

-- one number more is asked
pub filter_more : (p : ℕ → Bool) (xs : List ℕ) (n : ℕ) → filter p (xs ++ n ∷ []) ≡ filter p xs ++ cond (p n) (n ∷ []) []
filter_more p xs n = filter-append p xs (n ∷ [])

-- ---- whether a number is in the list

pub among_is : (ns : List ℕ) (n : ℕ) → is_among ns n ≡ true → Among n ns
among_is [] n e = absurd (cc e)
among_is (m ∷ ns) n e = go (λ e'. among_is ns n e') (m == n) refl e
  where
    go : (is_among ns n ≡ true → Among n ns) → (b : Bool) → (m == n) ≡ b → (b || is_among ns n) ≡ true → Among n (m ∷ ns)
    go rest true same e' = inl (sym (eqb-true m n same))
    go rest false same e' = inr (rest e')

-- the own number tells nothing of another
pub is_among_others : (own n : ℕ) → n ≢ own → (ns : List ℕ) → is_among (others_in own ns) n ≡ is_among ns n
is_among_others own n other [] = refl
is_among_others own n other (m ∷ ns) = go (ℕ_discrete m own) (is_among_others own n other ns)
  where
    go : Dec (m ≡ own) → is_among (others_in own ns) n ≡ is_among ns n → is_among (cond (not (m == own)) (m ∷ others_in own ns) (others_in own ns)) n ≡ (m == n || is_among ns n)
    go (yes same) rest =
        let not_n : (m == n) ≡ false = ne_eqb m n (λ e. other (sym e ∙ same)) in
        ap (λ (b : Bool). is_among (cond (not b) (m ∷ others_in own ns) (others_in own ns)) n) (eq-eqb m own same)
        ∙ rest ∙ sym (ap (λ (b : Bool). b || is_among ns n) not_n)
    go (no differs) rest =
        ap (λ (b : Bool). is_among (cond (not b) (m ∷ others_in own ns) (others_in own ns)) n) (ne_eqb m own differs)
        ∙ ap (λ (b : Bool). m == n || b) rest

or_true : (b : Bool) → (b || true) ≡ true
or_true true = refl
or_true false = refl

pub is_among_from : (ns : List ℕ) (n : ℕ) → Among n ns → is_among ns n ≡ true
is_among_from [] n h = absurd h
is_among_from (m ∷ ns) n (inl e) = ap (λ (b : Bool). b || is_among ns n) (eq-eqb m n (sym e))
is_among_from (m ∷ ns) n (inr h) = ap (λ (b : Bool). m == n || b) (is_among_from ns n h) ∙ or_true (m == n)

or_false : (b : Bool) → (b || false) ≡ b
or_false true = refl
or_false false = refl

is_among_more : (ns : List ℕ) (x n : ℕ) → is_among (ns ++ x ∷ []) n ≡ (is_among ns n || x == n)
is_among_more ns x n = list_any-append (λ m. m == n) ns (x ∷ []) ∙ ap (λ (b : Bool). is_among ns n || b) (or_false (x == n))

-- one number more is marked
pub put_marked : (count : ℕ) (marks later : List Bool) (numbers new : List ℕ) (x : ℕ) → AreMarked count marks numbers → length later ≡ length marks
    → ((n : ℕ) → n < length marks → get_or later n false ≡ (get_or marks n false || x == n)) → new ≡ numbers ++ x ∷ [] → AreMarked count later new
put_marked count marks later numbers new x before same marked is = record {
  whole = same ∙ before.whole;
  marked = λ n low.
      marked n (omega (arith, before.whole)) ∙ ap (λ (b : Bool). b || x == n) (before.marked n low)
      ∙ sym (is_among_more numbers x n) ∙ ap (λ (ns : List ℕ). is_among ns n) (sym is);
}

-- one of the list is put behind the others
pub is_among_requeued : (x : ℕ) (ns : List ℕ) → Among x ns → (n : ℕ) → is_among (others_in x ns ++ x ∷ []) n ≡ is_among ns n
is_among_requeued x ns there n = is_among_more (others_in x ns) x n ∙ go (ℕ_discrete n x)
  where
    go : Dec (n ≡ x) → (is_among (others_in x ns) n || x == n) ≡ is_among ns n
    go (yes same) =
        ap (λ (b : Bool). is_among (others_in x ns) n || b) (eq-eqb x n (sym same)) ∙ or_true (is_among (others_in x ns) n)
        ∙ sym (is_among_from ns n (subst (λ (m : ℕ). Among m ns) (sym same) there))
    go (no differs) =
        ap (λ (b : Bool). is_among (others_in x ns) n || b) (ne_eqb x n (λ e. differs (sym e))) ∙ or_false (is_among (others_in x ns) n)
        ∙ is_among_others x n differs ns

pub requeued_marked : (count : ℕ) (marks : List Bool) (numbers new : List ℕ) (x : ℕ) → Among x numbers → new ≡ others_in x numbers ++ x ∷ [] → AreMarked count marks numbers → AreMarked count marks new
requeued_marked count marks numbers new x there is before = record {
  whole = before.whole;
  marked = λ n low. before.marked n low ∙ sym (ap (λ (ns : List ℕ). is_among ns n) is ∙ is_among_requeued x numbers there n);
}

-- ---- all numbers in turn

pub range_more : (a n : ℕ) → range_with_len a (suc n) ≡ range_with_len a n ++ (a + n) ∷ []
range_more a zero = ap (λ (k : ℕ). k ∷ []) (omega arith)
range_more a (suc n) = ap (λ ks. a ∷ ks) (range_more (a + 1) n ∙ ap (λ (k : ℕ). range_with_len (a + 1) n ++ k ∷ []) (omega arith))

pub among_range : (a n k : ℕ) → a ≤ k → k < a + n → Among k (range_with_len a n)
among_range a zero k low high = absurd (omega arith)
among_range a (suc n) k low high = elim (ℕ_discrete k a) [
  | yes same ↦ inl same
  | no differs ↦ inr (among_range (a + 1) n k (omega arith) (omega arith))
]

abbrev new_in : (own : ℕ) → (old : List ℕ) → (count : ℕ) → List ℕ
new_in own old count = filter (is_new own old) (range_with_len 0 count)

-- each of so many processes has its turn
pub all_in_turn : (own : ℕ) (old : List ℕ) (count n : ℕ) → n < count → Among n (in_turn own old count)
all_in_turn own old count n low = elim (ℕ_discrete n own) [
  | yes same ↦ among_right n (others_in own old) (new_in own old count ++ own ∷ []) (among_right n (new_in own old count) (own ∷ []) (inl same))
  | no differs ↦ go differs (is_among old n) refl
]
  where
    go : n ≢ own → (b : Bool) → is_among old n ≡ b → Among n (in_turn own old count)
    go differs true e =
        among_left n (others_in own old) (new_in own old count ++ own ∷ []) (among_filter (λ m. not (m == own)) old n (among_is old n e) (ap not (ne_eqb n own differs)))
    go differs false e =
        let new : is_new own old n ≡ true = ap (λ (b : Bool). not b && not (is_among old n)) (ne_eqb n own differs) ∙ ap not e in
        among_right n (others_in own old) (new_in own old count ++ own ∷ []) (among_left n (new_in own old count) (own ∷ []) (among_filter (is_new own old) (range_with_len 0 count) n (among_range 0 count n (omega arith) (omega arith)) new))

-- ---- no number twice

pub in_filter : (p : ℕ → Bool) (xs : List ℕ) (n : ℕ) → Among n (filter p xs) → Among n xs
in_filter p [] n h = absurd h
in_filter p (x ∷ xs) n h = go (λ h'. in_filter p xs n h') (p x) h
  where
    go : (Among n (filter p xs) → Among n xs) → (b : Bool) → Among n (cond b (x ∷ filter p xs) (filter p xs)) → Among n (x ∷ xs)
    go rest true (inl e) = inl e
    go rest true (inr h') = inr (rest h')
    go rest false h' = inr (rest h')

pub once_filter : (p : ℕ → Bool) (xs : List ℕ) → EachOnce xs → EachOnce (filter p xs)
once_filter p [] once = tt
once_filter p (x ∷ xs) once = go (p x) (once_filter p xs once.1)
  where
    go : (b : Bool) → EachOnce (filter p xs) → EachOnce (cond b (x ∷ filter p xs) (filter p xs))
    go true rest = (λ h. once.0 (in_filter p xs x h), rest)
    go false rest = rest

pub among_either : (n : ℕ) (xs ys : List ℕ) → Among n (xs ++ ys) → Among n xs ⊎ Among n ys
among_either n [] ys h = inr h
among_either n (x ∷ xs) ys (inl e) = inl (inl e)
among_either n (x ∷ xs) ys (inr h) = go (among_either n xs ys h)
  where
    go : Among n xs ⊎ Among n ys → Among n (x ∷ xs) ⊎ Among n ys
    go (inl h') = inl (inr h')
    go (inr h') = inr h'

pub once_append : (xs ys : List ℕ) → EachOnce xs → EachOnce ys → ((n : ℕ) → Among n xs → Among n ys → ⊥) → EachOnce (xs ++ ys)
once_append [] ys first second apart = second
once_append (x ∷ xs) ys first second apart =
    (λ h. go (among_either x xs ys h), once_append xs ys first.1 second (λ n h h'. apart n (inr h) h'))
  where
    go : Among x xs ⊎ Among x ys → ⊥
    go (inl h) = first.0 h
    go (inr h) = apart x (inl refl) h

from_start : (a n k : ℕ) → Among k (range_with_len a n) → a ≤ k
from_start a zero k h = absurd h
from_start a (suc n) k (inl e) = omega arith
from_start a (suc n) k (inr h) = let low = from_start (a + 1) n k h in omega arith

once_range : (a n : ℕ) → EachOnce (range_with_len a n)
once_range a zero = tt
once_range a (suc n) = (λ h. let low = from_start (a + 1) n a h in omega (arith, low), once_range (a + 1) n)

pub not_own : (own : ℕ) → not (own == own) ≡ false
not_own own = ap not (eq-eqb own own refl)

-- where no number was twice in the list, none is in turn twice
pub once_in_turn : (own : ℕ) (old : List ℕ) (count : ℕ) → EachOnce old → EachOnce (in_turn own old count)
once_in_turn own old count once =
    once_append (others_in own old) (new_in own old count ++ own ∷ []) (once_filter (λ m. not (m == own)) old once)
    (once_append (new_in own old count) (own ∷ []) (once_filter (is_new own old) (range_with_len 0 count) (once_range 0 count)) (λ h. h, tt) new_apart)
    others_apart
  where
    new_passes : (n : ℕ) → Among n (new_in own old count) → is_new own old n ≡ true
    new_passes n h = filter_among (is_new own old) (range_with_len 0 count) n h

    new_apart : (n : ℕ) → Among n (new_in own old count) → Among n (own ∷ []) → ⊥
    new_apart n h (inl e) = cc (sym (new_passes n h) ∙ ap (λ (m : ℕ). not (m == own) && not (is_among old n)) e ∙ ap (λ (b : Bool). b && not (is_among old n)) (not_own own))
    new_apart n h (inr h') = h'

    others_apart : (n : ℕ) → Among n (others_in own old) → Among n (new_in own old count ++ own ∷ []) → ⊥
    others_apart n h h' = go (among_either n (new_in own old count) (own ∷ []) h')
      where
        both : (b : Bool) → (b && not true) ≡ false
        both true = refl
        both false = refl

        go : Among n (new_in own old count) ⊎ Among n (own ∷ []) → ⊥
        go (inl new) =
            let there = is_among_from old n (in_filter (λ m. not (m == own)) old n h) in
            cc (sym (new_passes n new) ∙ ap (λ (b : Bool). not (n == own) && not b) there ∙ both (not (n == own)))
        go (inr (inl e)) = cc (sym (filter_among (λ m. not (m == own)) old n h) ∙ ap (λ (m : ℕ). not (m == own)) e ∙ not_own own)
        go (inr (inr none)) = none
