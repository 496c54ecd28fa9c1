-- The queue of those that can step, while those that became able are put behind it.
use Rattle.std.proofs.Common.{◌≡◌, ◌≢◌, ◌⊎◌, inl, inr, ℕ, zero, suc, ◌+◌, ◌-◌, ◌<◌, ◌≤◌, Bool, true, false, cond, not, ◌==◌, ◌&&◌, List, [], ◌∷◌, ◌++◌, length, get_or, filter, take, drop, eq-eqb, length-append, replicate, refl, sym, ap, ap₂, ◌∙◌, subst, arith, append_assoc, append-nil}
use Rattle.std.specs.Prelude.{Contains, IsSome, None, OnSome, Option, Some, slice_get, slice_index_or}
use Rattle.std.specs.List.{range_with_len}
use Rattle.std.proofs.lemmas.Bool.{ne_eqb}
use Rattle.std.proofs.lemmas.List.{length-replicate, take_all}
use Rattle.std.proofs.lemmas.Option.{slice_get-get_or}
use Rattle.std.proofs.lemmas.List.Elements.{filter-append}
use Rattle.fm_run.specs.Orders.{Among, AreMarked, EachOnce, KeepsFront, is_among, others_in, is_new, in_turn, newly}
use Rattle.fm_run.proofs.Numbers.{among_either, among_filter, among_is, among_left, among_range, among_right, among_get, filter_among, filter_more, in_filter, is_among_from, is_among_others, not_own, once_append, range_more}
use native.Mathlib.Decide.{ℕ_discrete}

pub and_left : (a b : Bool) → (a && b) ≡ true → a ≡ true
and_left true b e = refl
and_left false b e = e

pub and_right : (a b : Bool) → (a && b) ≡ true → b ≡ true
and_right true b e = e
and_right false b e = absurd (cc e)

pub not_true : (b : Bool) → (b ≡ true → ⊥) → b ≡ false
not_true true n = absurd (n refl)
not_true false n = refl

not_false : (b : Bool) → not b ≡ true → b ≡ false
not_false true e = absurd (cc e)
not_false false e = refl

-- what stands there is the same whatever is given for none
pub any_given : (xs : List ℕ) (j a b : ℕ) → j < length xs → get_or xs j a ≡ get_or xs j b
any_given [] j a b l = absurd (omega arith)
any_given (x ∷ xs) zero a b l = refl
any_given (x ∷ xs) (suc j) a b l = any_given xs j a b (omega arith)

-- ---- filters

filter_twice : (p r : ℕ → Bool) (xs : List ℕ) → filter p (filter r xs) ≡ filter (λ n. r n && p n) xs
filter_twice p r [] = refl
filter_twice p r (x ∷ xs) = go (r x) (filter_twice p r xs)
  where
    go : (b : Bool) → filter p (filter r xs) ≡ filter (λ n. r n && p n) xs → filter p (cond b (x ∷ filter r xs) (filter r xs)) ≡ cond (b && p x) (x ∷ filter (λ n. r n && p n) xs) (filter (λ n. r n && p n) xs)
    go true e = ap (λ (ns : List ℕ). cond (p x) (x ∷ ns) ns) e
    go false e = e

filter_all : (p : ℕ → Bool) (xs : List ℕ) → ((n : ℕ) → Among n xs → p n ≡ true) → filter p xs ≡ xs
filter_all p [] all = refl
filter_all p (x ∷ xs) all = ap (λ (b : Bool). cond b (x ∷ filter p xs) (filter p xs)) (all x (inl refl)) ∙ ap (λ (ns : List ℕ). x ∷ ns) (filter_all p xs (λ n h. all n (inr h)))

-- numbers that don't pass make no difference
gap : (p : ℕ → Bool) (a d : ℕ) → ((n : ℕ) → a ≤ n → n < a + d → p n ≡ false) → filter p (range_with_len 0 (a + d)) ≡ filter p (range_with_len 0 a)
gap p a zero none = ap (λ (k : ℕ). filter p (range_with_len 0 k)) (omega arith)
gap p a (suc d) none =
    let next : a + suc d ≡ suc (a + d) = omega arith in
    let last : 0 + (a + d) ≡ a + d = omega arith in
    ap (λ (k : ℕ). filter p (range_with_len 0 k)) next ∙ ap (filter p) (range_more 0 (a + d)) ∙ ap (λ (k : ℕ). filter p (range_with_len 0 (a + d) ++ k ∷ [])) last
    ∙ filter_more p (range_with_len 0 (a + d)) (a + d) ∙ ap (λ (b : Bool). filter p (range_with_len 0 (a + d)) ++ cond b ((a + d) ∷ []) []) (none (a + d) (omega arith) (omega arith))
    ∙ append-nil (filter p (range_with_len 0 (a + d))) ∙ gap p a d (λ n low high. none n low (omega (arith, high)))

upto : (p : ℕ → Bool) (a b : ℕ) → a ≤ b → ((n : ℕ) → a ≤ n → n < b → p n ≡ false) → filter p (range_with_len 0 b) ≡ filter p (range_with_len 0 a)
upto p a b low none =
    let whole : b ≡ a + (b - a) = omega arith in
    ap (λ (k : ℕ). filter p (range_with_len 0 k)) whole ∙ gap p a (b - a) (λ n l h. none n l (omega (arith, h, whole)))

one_more : (p : ℕ → Bool) (n : ℕ) → filter p (range_with_len 0 (n + 1)) ≡ filter p (range_with_len 0 n) ++ cond (p n) (n ∷ []) []
one_more p n =
    let next : n + 1 ≡ suc n = omega arith in
    let last : 0 + n ≡ n = omega arith in
    ap (λ (k : ℕ). filter p (range_with_len 0 k)) next ∙ ap (filter p) (range_more 0 n) ∙ ap (λ (k : ℕ). filter p (range_with_len 0 n ++ k ∷ [])) last ∙ filter_more p (range_with_len 0 n) n

below_end : (a n k : ℕ) → Among k (range_with_len a n) → k < a + n
below_end a zero k h = absurd h
below_end a (suc n) k (inl e) = omega (arith, e)
below_end a (suc n) k (inr h) = let low = below_end (a + 1) n k h in omega (arith, low)

-- ---- those that became able, by the number of the process

-- those of the candidates before the i-th were asked: those that became able stand behind the list, up to this number
pub record AreAsked (can : ℕ → Bool) (own : ℕ) (old candidates : List ℕ) (i : ℕ) (queue : List ℕ) : Type 0 where
  pub last : ℕ
  pub queued : queue ≡ old ++ filter (newly can own old) (range_with_len 0 last)
  pub passed : (j : ℕ) (d : ℕ) → j < i → j < length candidates → slice_index_or candidates j d < last

-- those of the list can step still; behind them come those that became able, and the one that made the steps
pub ready_is : (can : ℕ → Bool) (own : ℕ) (old : List ℕ) (count : ℕ) → ((n : ℕ) → Among n (others_in own old) → can n ≡ true)
    → (others_in own old ++ filter (newly can own old) (range_with_len 0 count)) ++ cond (can own) (own ∷ []) [] ≡ filter can (in_turn own old count)
ready_is can own old count all =
    let base = others_in own old in
    let new = filter (is_new own old) (range_with_len 0 count) in
    append_assoc base (filter (newly can own old) (range_with_len 0 count)) (cond (can own) (own ∷ []) [])
    ∙ sym (
    filter-append can base (new ++ own ∷ []) ∙ ap₂ (λ (ns ms : List ℕ). ns ++ ms) (filter_all can base all) (filter-append can new (own ∷ []) ∙ ap (λ (ns : List ℕ). ns ++ cond (can own) (own ∷ []) []) (filter_twice can (is_new own old) (range_with_len 0 count)))
    )

-- those that became able are others
pub others_after : (can : ℕ → Bool) (own : ℕ) (old : List ℕ) (count : ℕ) → others_in own (old ++ filter (newly can own old) (range_with_len 0 count)) ≡ others_in own old ++ filter (newly can own old) (range_with_len 0 count)
others_after can own old count =
    filter-append (λ n. not (n == own)) old new ∙ ap (λ (ns : List ℕ). others_in own old ++ ns) (filter_all (λ n. not (n == own)) new (λ n h. differs n (filter_among (newly can own old) (range_with_len 0 count) n h)))
  where
    new : List ℕ
    new = filter (newly can own old) (range_with_len 0 count)

    differs : (n : ℕ) → newly can own old n ≡ true → not (n == own) ≡ true
    differs n e = and_left (not (n == own)) (not (is_among old n)) (and_left (is_new own old n) (can n) e)

module _ (can : ℕ → Bool) (own : ℕ) (old candidates : List ℕ) where
  abbrev q : ℕ → Bool
  q = newly can own old

  pub none_asked : (queue : List ℕ) → queue ≡ old → AreAsked can own old candidates 0 queue
  none_asked queue is = record { last = 0; queued = is ∙ sym (append-nil old); passed = λ j d low. absurd (omega (arith, low)) }

  -- who is newly able isn't in the list
  not_there : (n : ℕ) → q n ≡ true → Among n old → ⊥
  not_there n new h =
      let fresh = and_left (is_new own old n) (can n) new in
      cc (sym (and_right (not (n == own)) (not (is_among old n)) fresh) ∙ ap not (is_among_from old n h))

  module _ (sorted : (i j d : ℕ) → i ≤ j → j < length candidates → get_or candidates i d ≤ get_or candidates j d) (whole : (n : ℕ) → q n ≡ true → Contains candidates n) where
    module _ (i d : ℕ) (low : i < length candidates) (queue : List ℕ) (asked : AreAsked can own old candidates i queue) where
      abbrev c : ℕ
      c = get_or candidates i d

      -- nobody between the last one and this one became able
      between : (n : ℕ) → asked.last ≤ n → n < c → q n ≡ false
      between n from to = not_true (q n) (λ new. go (whole n new))
        where
          go : Contains candidates n → ⊥
          go k = elim (earlier k.0 i) [
            | inl before ↦ absurd (omega (arith, asked.passed k.0 n before k.1, k.2, from))
            | inr behind ↦ absurd (omega (arith, sorted i k.0 n behind k.1, same_here k, k.2, to))
          ]
            where
              earlier : (a b : ℕ) → (a < b) ⊎ (b ≤ a)
              earlier a b = grind arith

              same_here : Contains candidates n → get_or candidates i n ≡ c
              same_here k = any_given candidates i n d low

      before_or_here : (j : ℕ) → j < i + 1 → (j ≡ i) ⊎ (j < i)
      before_or_here j h = grind arith

      -- it isn't put behind the others: it didn't become able, or stands there
      pub asked_not : (q c ≡ false) ⊎ Among c queue → AreAsked can own old candidates (i + 1) queue
      asked_not why = go (ℕ_compare c asked.last)
        where
          ℕ_compare : (a b : ℕ) → (a < b) ⊎ (b ≤ a)
          ℕ_compare a b = grind arith

          passed_with : (last : ℕ) → asked.last ≤ last → c < last → (j e : ℕ) → j < i + 1 → j < length candidates → get_or candidates j e < last
          passed_with last more here j e h l = elim (before_or_here j h) [
            | inl same ↦ omega (arith, ap (λ (k : ℕ). get_or candidates k e) same, any_given candidates i e d low, here)
            | inr before ↦ omega (arith, asked.passed j e before l, more)
          ]

          not_new : asked.last ≤ c → (q c ≡ false) ⊎ Among c queue → q c ≡ false
          not_new at (inl e) = e
          not_new at (inr h) = not_true (q c) (λ new. stands new (among_either c old (filter q (range_with_len 0 asked.last)) (subst (Among c) asked.queued h)))
            where
              stands : q c ≡ true → Among c old ⊎ Among c (filter q (range_with_len 0 asked.last)) → ⊥
              stands new (inl other) = not_there c new other
              stands new (inr k) = absurd (omega (arith, below_end 0 asked.last c (in_filter q (range_with_len 0 asked.last) c k), at))

          go : (c < asked.last) ⊎ (asked.last ≤ c) → AreAsked can own old candidates (i + 1) queue
          go (inl below) = record { last = asked.last; queued = asked.queued; passed = passed_with asked.last (omega arith) below }
          go (inr at) = record {
            last = c + 1;
            queued = asked.queued ∙ ap (λ (ns : List ℕ). old ++ ns) (sym (upto q asked.last (c + 1) (omega (arith, at)) (λ n from to. upto_here n from (before_this n to))));
            passed = passed_with (c + 1) (omega (arith, at)) (omega arith);
          }
            where
              before_this : (n : ℕ) → n < c + 1 → (n ≡ c) ⊎ (n < c)
              before_this n h = grind arith

              upto_here : (n : ℕ) → asked.last ≤ n → (n ≡ c) ⊎ (n < c) → q n ≡ false
              upto_here n from (inl same) = ap q same ∙ not_new at why
              upto_here n from (inr h) = between n from h

      -- it became able
      pub asked_new : q c ≡ true → (Among c queue → ⊥) → AreAsked can own old candidates (i + 1) (queue ++ c ∷ [])
      asked_new new absent = go (ℕ_compare c asked.last)
        where
          ℕ_compare : (a b : ℕ) → (a < b) ⊎ (b ≤ a)
          ℕ_compare a b = grind arith

          go : (c < asked.last) ⊎ (asked.last ≤ c) → AreAsked can own old candidates (i + 1) (queue ++ c ∷ [])
          go (inl below) =
              let there = among_right c old (filter q (range_with_len 0 asked.last)) (among_filter q (range_with_len 0 asked.last) c (among_range 0 asked.last c (omega arith) (omega (arith, below))) new) in
              absurd (absent (subst (Among c) (sym asked.queued) there))
          go (inr at) = record {
            last = c + 1;
            queued =
                ap (λ (ns : List ℕ). ns ++ c ∷ []) asked.queued ∙ append_assoc old (filter q (range_with_len 0 asked.last)) (c ∷ [])
                ∙ ap (λ (ns : List ℕ). old ++ ns) (
                ap (λ (ns : List ℕ). ns ++ c ∷ []) (sym (upto q asked.last c at (λ n from to. between n from to)))
                ∙ ap (λ (b : Bool). filter q (range_with_len 0 c) ++ cond b (c ∷ []) []) (sym new) ∙ sym (one_more q c)
                );
            passed = λ j e h l. elim (before_or_here j h) [
              | inl same ↦ omega (arith, ap (λ (k : ℕ). get_or candidates k e) same, any_given candidates i e d low)
              | inr before ↦ omega (arith, asked.passed j e before l, at)
            ];
          }

    -- all were asked
    pub all_asked : (queue : List ℕ) → AreAsked can own old candidates (length candidates) queue → (count : ℕ) → ((n : ℕ) → count ≤ n → can n ≡ false) → queue ≡ old ++ filter q (range_with_len 0 count)
    all_asked queue asked count high = asked.queued ∙ ap (λ (ns : List ℕ). old ++ ns) (go (ℕ_compare count asked.last))
      where
        ℕ_compare : (a b : ℕ) → (a < b) ⊎ (b ≤ a)
        ℕ_compare a b = grind arith

        and_false : (a : Bool) → (a && false) ≡ false
        and_false true = refl
        and_false false = refl

        beyond : (n : ℕ) → count ≤ n → q n ≡ false
        beyond n h = ap (λ (b : Bool). is_new own old n && b) (high n h) ∙ and_false (is_new own old n)

        behind : (n : ℕ) → asked.last ≤ n → q n ≡ false
        behind n from = not_true (q n) (λ new. let k = whole n new in absurd (omega (arith, asked.passed k.0 n k.1 k.1, k.2, from)))

        go : (count < asked.last) ⊎ (asked.last ≤ count) → filter q (range_with_len 0 asked.last) ≡ filter q (range_with_len 0 count)
        go (inl more) = upto q count asked.last (omega arith) (λ n from to. beyond n from)
        go (inr less) = sym (upto q asked.last count less (λ n from to. behind n from))

-- ---- the one that made the steps leaves its place

pub others_absent : (own : ℕ) (xs : List ℕ) → (Among own xs → ⊥) → others_in own xs ≡ xs
others_absent own xs absent = filter_all (λ n. not (n == own)) xs (λ n h. ap not (ne_eqb n own (λ e. absent (subst (λ (m : ℕ). Among m xs) e h))))

pub removed : (xs : List ℕ) (k n : ℕ) → slice_get xs k ≡ Some n → EachOnce xs → take k xs ++ drop (suc k) xs ≡ others_in n xs
removed [] k n is once = absurd (cc is)
removed (x ∷ xs) zero n is once =
    let same : x ≡ n = cc is in
    sym (
    ap (λ (b : Bool). cond (not b) (x ∷ others_in n xs) (others_in n xs)) (eq-eqb x n same)
    ∙ others_absent n xs (λ h. once.0 (subst (λ (m : ℕ). Among m xs) (sym same) h))
    )
removed (x ∷ xs) (suc k) n is once =
    let differs : x ≢ n = λ e. once.0 (subst (λ (m : ℕ). Among m xs) (sym e) (among_get xs k n is)) in
    ap (λ (ns : List ℕ). x ∷ ns) (removed xs k n is once.1)
    ∙ sym (ap (λ (b : Bool). cond (not b) (x ∷ others_in n xs) (others_in n xs)) (ne_eqb x n differs))

-- ---- places and marks

pub found_at : (ns : List ℕ) (k n : ℕ) → k < length ns → (m : ℕ) → m ≡ get_or ns k m → m ≡ n → slice_get ns k ≡ Some n
found_at ns k n low m is same = slice_get-get_or ns k m low ∙ ap Some (sym is ∙ same)

same_or_before : (j i : ℕ) → j < i + 1 → (j ≡ i) ⊎ (j < i)
same_or_before j i h = grind arith

the_number : (a b : ℕ) → Some a ≡ Some b → a ≡ b
the_number a b e = cc e

pub not_at : (ns : List ℕ) (place n : ℕ) → ((k : ℕ) → k < place → slice_get ns k ≢ Some n) → place < length ns → (m : ℕ) → m ≡ get_or ns place m → m ≢ n → (k : ℕ) → k < place + 1 → slice_get ns k ≢ Some n
not_at ns place n none low m is differs k within e = elim (same_or_before k place within) [
  | inl same ↦ differs (the_number m n (ap Some is ∙ sym (slice_get-get_or ns place m low) ∙ ap (slice_get ns) (sym same) ∙ e))
  | inr before ↦ none k before e
]

-- who isn't at any place isn't in the list
pub nowhere : (ns : List ℕ) (n : ℕ) → ((k : ℕ) → k < length ns → slice_get ns k ≢ Some n) → Among n ns → ⊥
nowhere [] n none h = h
nowhere (x ∷ ns) n none (inl e) = none 0 (omega arith) (ap Some (sym e))
nowhere (x ∷ ns) n none (inr h) = nowhere ns n (λ k low. none (suc k) (omega arith)) h

-- one number isn't marked any more
pub left_marked : (count : ℕ) (marks later : List Bool) (numbers : List ℕ) (x : ℕ) → AreMarked count marks numbers → length later ≡ length marks
    → ((n : ℕ) → n < length marks → get_or later n false ≡ (get_or marks n false && not (x == n))) → AreMarked count later (others_in x numbers)
left_marked count marks later numbers x before same marked = record {
  whole = same ∙ before.whole;
  marked = λ n low. marked n (omega (arith, before.whole)) ∙ ap (λ (b : Bool). b && not (x == n)) (before.marked n low) ∙ go n (ℕ_discrete n x);
}
  where
    and_true : (b : Bool) → (b && true) ≡ b
    and_true true = refl
    and_true false = refl

    and_none : (b : Bool) → (b && false) ≡ false
    and_none true = refl
    and_none false = refl

    gone : (xs : List ℕ) → is_among (others_in x xs) x ≡ false
    gone xs = not_true (is_among (others_in x xs) x) (λ e. cc (sym (filter_among (λ m. not (m == x)) xs x (among_is (others_in x xs) x e)) ∙ not_own x))

    go : (n : ℕ) → Dec (n ≡ x) → (is_among numbers n && not (x == n)) ≡ is_among (others_in x numbers) n
    go n (yes e) =
        ap (λ (b : Bool). is_among numbers n && not b) (eq-eqb x n (sym e)) ∙ and_none (is_among numbers n)
        ∙ sym (ap (is_among (others_in x numbers)) e ∙ gone numbers)
    go n (no differs) =
        ap (λ (b : Bool). is_among numbers n && not b) (ne_eqb x n (λ e. differs (sym e))) ∙ and_true (is_among numbers n)
        ∙ sym (is_among_others x n differs numbers)

at_front : (xs ys : List Bool) (n : ℕ) → n < length xs → get_or (xs ++ ys) n false ≡ get_or xs n false
at_front [] ys n low = absurd (omega arith)
at_front (x ∷ xs) ys zero low = refl
at_front (x ∷ xs) ys (suc n) low = at_front xs ys n (omega arith)

all_false : (k n : ℕ) → get_or (replicate k false) n false ≡ false
all_false zero n = refl
all_false (suc k) zero = refl
all_false (suc k) (suc n) = all_false k n

behind : (xs : List Bool) (k n : ℕ) → length xs ≤ n → get_or (xs ++ replicate k false) n false ≡ false
behind [] k n high = all_false k n
behind (x ∷ xs) k zero high = absurd (omega arith)
behind (x ∷ xs) k (suc n) high = behind xs k n (omega arith)

-- there are more processes, none of them marked
pub grown_marked : (before count len : ℕ) (marks later : List Bool) (numbers : List ℕ) → before ≤ count → ((n : ℕ) → Among n numbers → n < before) → AreMarked before marks numbers
    → len ≡ length marks → later ≡ take count marks ++ replicate (count - len) false → AreMarked count later numbers
grown_marked before count len marks later numbers more within are whole is = record {
  whole = ap length filled ∙ length-append marks new ∙ ap (λ (k : ℕ). length marks + k) (length-replicate (count - len) false) ∙ together;
  marked = λ n low. ap (λ (ms : List Bool). get_or ms n false) filled ∙ go n (low_or_high n before);
}
  where
    new : List Bool
    new = replicate (count - len) false

    filled : later ≡ marks ++ new
    filled = is ∙ ap (λ (ms : List Bool). ms ++ new) (take_all count marks (omega (arith, more, are.whole)))

    together : length marks + (count - len) ≡ count
    together = omega (arith, more, are.whole, whole)

    low_or_high : (a b : ℕ) → (a < b) ⊎ (b ≤ a)
    low_or_high a b = grind arith

    go : (n : ℕ) → (n < before) ⊎ (before ≤ n) → get_or (marks ++ new) n false ≡ is_among numbers n
    go n (inl low) = at_front marks new n (omega (arith, are.whole)) ∙ are.marked n low
    go n (inr high) =
        behind marks (count - len) n (omega (arith, are.whole)) ∙ sym (not_true (is_among numbers n) (λ e. absurd (omega (arith, within n (among_is numbers n e)))))

-- a list with more at its end
pub filled_up : (xs : List ℕ) (count len more x : ℕ) → len ≡ length xs → count ≡ length xs + more → take count xs ++ replicate (count - len) x ≡ xs ++ replicate more x
filled_up xs count len more x whole is =
    let left : count - len ≡ more = omega (arith, is, whole) in
    ap₂ (λ (ys zs : List ℕ). ys ++ zs) (take_all count xs (omega (arith, is))) (ap (λ (k : ℕ). replicate k x) left)

-- ---- one candidate is asked

module _ (can : ℕ → Bool) (own : ℕ) (old candidates : List ℕ) (sorted : (i j d : ℕ) → i ≤ j → j < length candidates → get_or candidates i d ≤ get_or candidates j d) (whole : (n : ℕ) → newly can own old n ≡ true → Contains candidates n)
    (i d : ℕ) (low : i < length candidates) (queue : List ℕ) (asked : AreAsked can own old candidates i queue) (count : ℕ) (high : (n : ℕ) → count ≤ n → can n ≡ false) (marks : List Bool) (marked : AreMarked count marks queue) where
  abbrev this : ℕ
  this = get_or candidates i d

  within : can this ≡ true → this < count
  within e = elim (low_or_high this count) [ inl l ↦ l | inr h ↦ absurd (cc (sym (high this h) ∙ e)) ]
    where
      low_or_high : (a b : ℕ) → (a < b) ⊎ (b ≤ a)
      low_or_high a b = grind arith

  among_old : is_among old this ≡ true → Among this queue
  among_old h = subst (Among this) (sym asked.queued) (among_left this old (filter (newly can own old) (range_with_len 0 asked.last)) (among_is old this h))

  both : (a b : Bool) → a ≡ true → b ≡ true → (a && b) ≡ true
  both true b e f = f
  both false b e f = absurd (cc e)

  pub asked_step : (later : List ℕ) → later ≡ queue ++ cond ((not (this == own) && not (get_or marks this false)) && can this) (this ∷ []) [] → AreAsked can own old candidates (i + 1) later
  asked_step later is = go ((not (this == own) && not (get_or marks this false)) && can this) refl
    where
      go : (b : Bool) → ((not (this == own) && not (get_or marks this false)) && can this) ≡ b → AreAsked can own old candidates (i + 1) later
      go true e =
          let able = and_right (not (this == own) && not (get_or marks this false)) (can this) e in
          let fresh = and_left (not (this == own) && not (get_or marks this false)) (can this) e in
          let unmarked = not_false (get_or marks this false) (and_right (not (this == own)) (not (get_or marks this false)) fresh) in
          let absent : Among this queue → ⊥ = λ h. cc (sym unmarked ∙ marked.marked this (within able) ∙ is_among_from queue this h) in
          let new_one : newly can own old this ≡ true =
          both (is_new own old this) (can this) (both (not (this == own)) (not (is_among old this)) (and_left (not (this == own)) (not (get_or marks this false)) fresh) (ap not (not_true (is_among old this) (λ h. absent (among_old h))))) able in
          subst (AreAsked can own old candidates (i + 1)) (sym (is ∙ ap (λ (b : Bool). queue ++ cond b (this ∷ []) []) e))
          (asked_new can own old candidates sorted whole i d low queue asked new_one absent)
      go false e =
          subst (AreAsked can own old candidates (i + 1)) (sym (is ∙ ap (λ (b : Bool). queue ++ cond b (this ∷ []) []) e ∙ append-nil queue))
          (asked_not can own old candidates sorted whole i d low queue asked (why (newly can own old this) refl))
        where
          there : newly can own old this ≡ true → (m : Bool) → get_or marks this false ≡ m → Among this queue
          there new_one true m = among_is queue this (sym (marked.marked this (within (and_right (is_new own old this) (can this) new_one))) ∙ m)
          there new_one false m =
              absurd (cc (sym e ∙ both (not (this == own) && not (get_or marks this false)) (can this)
              (both (not (this == own)) (not (get_or marks this false)) (and_left (not (this == own)) (not (is_among old this)) (and_left (is_new own old this) (can this) new_one)) (ap not m))
              (and_right (is_new own old this) (can this) new_one)))

          why : (n : Bool) → newly can own old this ≡ n → (newly can own old this ≡ false) ⊎ Among this queue
          why true new_one = inr (there new_one (get_or marks this false) refl)
          why false not_new = inl not_new

-- a number that isn't marked isn't in the queue, so it isn't there twice where it's put behind the others
pub once_more : (can : ℕ → Bool) (count : ℕ) → ((n : ℕ) → count ≤ n → can n ≡ false) → (marks : List Bool) (queue later : List ℕ) (x : ℕ) (b : Bool) → AreMarked count marks queue
    → later ≡ queue ++ cond ((b && not (get_or marks x false)) && can x) (x ∷ []) [] → EachOnce queue → EachOnce later
once_more can count high marks queue later x b marked is once = subst EachOnce (sym is) (go ((b && not (get_or marks x false)) && can x) refl)
  where
    low_or_high : (a b : ℕ) → (a < b) ⊎ (b ≤ a)
    low_or_high a b = grind arith

    within : can x ≡ true → x < count
    within e = elim (low_or_high x count) [ inl l ↦ l | inr h ↦ absurd (cc (sym (high x h) ∙ e)) ]

    absent : get_or marks x false ≡ false → can x ≡ true → Among x queue → ⊥
    absent unmarked able h = cc (sym unmarked ∙ marked.marked x (within able) ∙ is_among_from queue x h)

    apart : ((b && not (get_or marks x false)) && can x) ≡ true → (n : ℕ) → Among n queue → Among n (x ∷ []) → ⊥
    apart e n h (inl same) =
        let fresh = and_left (b && not (get_or marks x false)) (can x) e in
        absent (not_false (get_or marks x false) (and_right b (not (get_or marks x false)) fresh)) (and_right (b && not (get_or marks x false)) (can x) e) (subst (λ (m : ℕ). Among m queue) same h)
    apart e n h (inr none) = none

    go : (p : Bool) → ((b && not (get_or marks x false)) && can x) ≡ p → EachOnce (queue ++ cond p (x ∷ []) [])
    go true e = once_append queue (x ∷ []) once (λ h. h, tt) (apart e)
    go false e = subst EachOnce (sym (append-nil queue)) once

-- those of the queue but the one that made the steps can step still where one that can step is put behind them
pub able_more : (can : ℕ → Bool) (own : ℕ) (queue later : List ℕ) (x : ℕ) (b : Bool) → later ≡ queue ++ cond (b && can x) (x ∷ []) [] → ((n : ℕ) → n ≢ own → Among n queue → can n ≡ true) → (n : ℕ) → n ≢ own → Among n later → can n ≡ true
able_more can own queue later x b is all n differs h = go (among_either n queue (cond (b && can x) (x ∷ []) []) (subst (Among n) is h))
  where
    one : (c : Bool) → (b && can x) ≡ c → Among n (cond c (x ∷ []) []) → can n ≡ true
    one true e (inl same) = ap can same ∙ and_right b (can x) e
    one true e (inr none) = absurd none
    one false e none = absurd none

    go : Among n queue ⊎ Among n (cond (b && can x) (x ∷ []) []) → can n ≡ true
    go (inl k) = all n differs k
    go (inr k) = one (b && can x) refl k

pub some_then : (o : Option ℕ) (P : Type 0) → OnSome o P → IsSome o → P
some_then None P p some = absurd (cc some)
some_then (Some n) P p some = p

-- ---- whether one number is put behind the others

module _ (queue : List ℕ) (x own : ℕ) (m c : Bool) where
  pub own_not_put : x ≡ own → queue ≡ queue ++ cond ((not (x == own) && not m) && c) (x ∷ []) []
  own_not_put e = sym (ap (λ (b : Bool). queue ++ cond ((not b && not m) && c) (x ∷ []) []) (eq-eqb x own e) ∙ append-nil queue)

  pub marked_not_put : m ≡ true → queue ≡ queue ++ cond ((not (x == own) && not m) && c) (x ∷ []) []
  marked_not_put e = sym (ap (λ (b : Bool). queue ++ cond ((not (x == own) && not b) && c) (x ∷ []) []) e ∙ ap (λ (b : Bool). queue ++ cond (b && c) (x ∷ []) []) (and_nothing (not (x == own))) ∙ append-nil queue)
    where
      and_nothing : (b : Bool) → (b && false) ≡ false
      and_nothing true = refl
      and_nothing false = refl

  pub other_put : (x ≢ own) → m ≡ false → (later : List ℕ) → later ≡ queue ++ cond c (x ∷ []) [] → later ≡ queue ++ cond ((not (x == own) && not m) && c) (x ∷ []) []
  other_put differs unmarked later is =
      is ∙ sym (
      ap (λ (b : Bool). queue ++ cond ((not b && not m) && c) (x ∷ []) []) (ne_eqb x own differs)
      ∙ ap (λ (b : Bool). queue ++ cond (not b && c) (x ∷ []) []) unmarked
      )

-- ---- the front of the queue

-- where it's as it was
pub front_same : (old new : List ℕ) → new ≡ old → KeepsFront old new
front_same old new is = ([], is ∙ sym (append-nil old))

-- where more is put behind it
pub front_then : (old mid new more : List ℕ) → KeepsFront old mid → new ≡ mid ++ more → KeepsFront old new
front_then old mid new more kept is = (kept.0 ++ more, is ∙ ap (λ (ns : List ℕ). ns ++ more) kept.1 ∙ append_assoc old kept.0 more)

pub front_stays : (old mid new : List ℕ) → KeepsFront old mid → new ≡ mid → KeepsFront old new
front_stays old mid new kept is = (kept.0, is ∙ kept.1)
