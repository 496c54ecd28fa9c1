-- Lists of those that are out, and of those that are ready.
use Rattle.std.proofs.Common.{◌≡◌, ◌≢◌, ◌⊎◌, inl, inr, ℕ, zero, suc, ◌+◌, ◌-◌, ◌<◌, ◌≤◌, Bool, true, false, cond, not, ◌==◌, ◌&&◌, ◌||◌, List, [], ◌∷◌, ◌++◌, length, length-append, filter, take, drop, get_or, append-nil, append_assoc, refl, sym, ap, ap₂, ◌∙◌, subst, arith, eqb-true, eq-eqb}
use Rattle.std.specs.Prelude.{is_some, Option, Some, None, slice_get}
use Rattle.std.specs.List.{AllByRecursion, IsDistinct}
use Rattle.std.specs.List.Sorted.{IsNonDecreasing, IsNonDecreasingBy, IsPermutation}
use Rattle.std.proofs.Math.Seq.{take-suc}
use Rattle.std.proofs.lemmas.Bool.{ne_eqb}
use Rattle.std.proofs.lemmas.List.{take_all}
use Rattle.std.proofs.lemmas.List.Elements.{filter-append}
use Rattle.std.proofs.lemmas.List.Sorted.{IsPermutation-map, list_any-IsPermutation}
use Rattle.std.proofs.lemmas.Map.Keys.{IsDistinct-IsPermutation}
use Rattle.std.proofs.lemmas.Option.{get_or_from_slice_get}
use Rattle.fm_code.specs.declared.body.Body.{Body}
use Rattle.fm_run.specs.Orders.{Among, EachOnce, is_among, others_in}
use Rattle.fm_run.proofs.Numbers.{among_filter, among_is, filter_among, in_filter, is_among_from, once_filter}
use Rattle.fm_table.specs.Giving.{IsCalledBack}
use Rattle.fm_table.specs.Inside.{out_of, outs_of}
use Rattle.fm_table.specs.Outs.{IsPlaceOut, behind}
use Rattle.fm_table.specs.Told.{Out, is_out, numbers_out, ready_in, start_in, without}
use Rattle.fm_table.specs.declared.outside.Taken.{Taken}
use Rattle.fm_run_law.proofs.Counts.{filter_all}
use native.Mathlib.Decide.{ℕ_discrete}

-- ---- where a process stands among them

-- the number at a place
pub number_at : (out : List Taken) (k : ℕ) (d : Taken) → k < length out → slice_get (numbers_out (outs_of out)) k ≡ Some (get_or out k d).number
number_at [] k d low = absurd (omega (arith, low))
number_at (x ∷ out) zero d low = refl
number_at (x ∷ out) (suc k) d low = number_at out k d (omega (arith, low))

pub as_many : (out : List Taken) → length (numbers_out (outs_of out)) ≡ length out
as_many [] = refl
as_many (x ∷ out) = ap suc (as_many out)

-- it isn't at one place more
pub not_there : (ns : List ℕ) (place n m : ℕ) → ((i : ℕ) → i < place → slice_get ns i ≡ Some n → ⊥) → slice_get ns place ≡ Some m → m ≢ n → (i : ℕ) → i < place + 1 → slice_get ns i ≡ Some n → ⊥
not_there ns place n m before at differs i low is = elim (ℕ_discrete i place) [
  | yes same ↦
      let here : slice_get ns place ≡ Some n = ap (slice_get ns) (sym same) ∙ is in
      let equal : m ≡ n = cc (sym at ∙ here) in
      differs equal
  | no apart ↦ before i (omega (arith, low, apart)) is
]

among_place : (ns : List ℕ) (n : ℕ) → Among n ns → (i : ℕ) × (i < length ns) × (slice_get ns i ≡ Some n)
among_place [] n h = absurd h
among_place (m ∷ ns) n (inl e) = (0, omega arith, ap Some (sym e))
among_place (m ∷ ns) n (inr h) = let k = among_place ns n h in (suc k.0, omega (arith, k.1), k.2)

-- it is at no place
pub nowhere_out : (out : List Out) (n count : ℕ) → length (numbers_out out) ≤ count → ((i : ℕ) → i < count → slice_get (numbers_out out) i ≡ Some n → ⊥) → IsPlaceOut out n None
nowhere_out out n count all none h = let k = among_place (numbers_out out) n h in none k.0 (omega (arith, k.1, all)) k.2

pub among_at : (ns : List ℕ) (k n : ℕ) → slice_get ns k ≡ Some n → Among n ns
among_at [] k n e = absurd (cc e)
among_at (x ∷ xs) zero n e = let same : x ≡ n = cc e in inl (sym same)
among_at (x ∷ xs) (suc k) n e = inr (among_at xs k n e)

-- whether it is there
pub out_by_place : (out : List Out) (n : ℕ) (r : Option ℕ) → IsPlaceOut out n r → is_some r ≡ is_out out n
out_by_place out n (Some k) at = sym (is_among_from (numbers_out out) n (among_at (numbers_out out) k n at.0))
out_by_place out n None none = go (is_out out n) refl
  where
    go : (b : Bool) → is_out out n ≡ b → false ≡ b
    go true e = absurd (none (among_is (numbers_out out) n e))
    go false e = refl

-- the body with which the one at a place was taken
pub start_at : (out : List Taken) (n k : ℕ) (d : Taken) → slice_get (numbers_out (outs_of out)) k ≡ Some n → ((i : ℕ) → i < k → slice_get (numbers_out (outs_of out)) i ≡ Some n → ⊥) → start_in (outs_of out) n ≡ Some (get_or out k d).start.value
start_at [] n k d at before = absurd (cc at)
start_at (x ∷ out) n zero d at before =
    let same : x.number ≡ n = cc at in
    ap (λ (b : Bool). cond b (Some x.start.value) (start_in (outs_of out) n)) (eq-eqb x.number n same)
start_at (x ∷ out) n (suc k) d at before =
    let differs : x.number ≢ n = λ e. before 0 (omega arith) (ap Some e) in
    ap (λ (b : Bool). cond b (Some x.start.value) (start_in (outs_of out) n)) (ne_eqb x.number n differs)
    ∙ start_at out n k d at (λ i low is. before (suc i) (omega (arith, low)) is)

pub no_start : (out : List Out) (n : ℕ) → (Among n (numbers_out out) → ⊥) → start_in out n ≡ None
no_start [] n none = refl
no_start (x ∷ out) n none =
    ap (λ (b : Bool). cond b (Some x.start) (start_in out n)) (ne_eqb x.number n (λ e. none (inl (sym e)))) ∙ no_start out n (λ h. none (inr h))

-- who has a start is out
pub start_out : (out : List Out) (n : ℕ) (b : Body) → start_in out n ≡ Some b → Among n (numbers_out out)
start_out [] n b e = absurd (cc e)
start_out (x ∷ out) n b e = go (λ f. start_out out n b f) (x.number == n) refl e
  where
    go : (start_in out n ≡ Some b → Among n (numbers_out out)) → (t : Bool) → (x.number == n) ≡ t → cond t (Some x.start) (start_in out n) ≡ Some b → Among n (x.number ∷ numbers_out out)
    go rest true same f = inl (sym (eqb-true x.number n same))
    go rest false apart f = inr (rest f)

-- ---- one is forgotten

pub without_none : (n : ℕ) (out : List Out) → (Among n (numbers_out out) → ⊥) → without n out ≡ out
without_none n [] none = refl
without_none n (x ∷ out) none =
    ap (λ (b : Bool). cond (not b) (x ∷ without n out) (without n out)) (ne_eqb x.number n (λ e. none (inl (sym e))))
    ∙ ap (λ (os : List Out). x ∷ os) (without_none n out (λ h. none (inr h)))

-- who isn't out is left
pub without_ready : (n : ℕ) (out : List Out) → is_out out n ≡ false → without n out ≡ out
without_ready n out e = without_none n out (λ h. cc (sym (is_among_from (numbers_out out) n h) ∙ e))

pub numbers_without : (n : ℕ) (out : List Out) → numbers_out (without n out) ≡ others_in n (numbers_out out)
numbers_without n [] = refl
numbers_without n (x ∷ out) = go (not (x.number == n)) (numbers_without n out)
  where
    go : (b : Bool) → numbers_out (without n out) ≡ others_in n (numbers_out out) → numbers_out (cond b (x ∷ without n out) (without n out)) ≡ cond b (x.number ∷ others_in n (numbers_out out)) (others_in n (numbers_out out))
    go true rest = ap (λ (ns : List ℕ). x.number ∷ ns) rest
    go false rest = rest

pub removed_without : (out : List Taken) (n k : ℕ) → EachOnce (numbers_out (outs_of out)) → slice_get (numbers_out (outs_of out)) k ≡ Some n → outs_of (take k out ++ drop (k + 1) out) ≡ without n (outs_of out)
removed_without [] n k once at = absurd (cc at)
removed_without (x ∷ out) n zero once at =
    let same : x.number ≡ n = cc at in
    sym (ap (λ (b : Bool). cond (not b) (out_of x ∷ without n (outs_of out)) (without n (outs_of out))) (eq-eqb x.number n same)
    ∙ without_none n (outs_of out) (λ h. once.0 (subst (λ (m : ℕ). Among m (numbers_out (outs_of out))) (sym same) h)))
removed_without (x ∷ out) n (suc k) once at =
    let next : suc k + 1 ≡ suc (k + 1) = omega arith in
    let differs : x.number ≢ n = λ e. once.0 (subst (λ (m : ℕ). Among m (numbers_out (outs_of out))) (sym e) (among_at (numbers_out (outs_of out)) k n at)) in
    ap (λ (m : ℕ). outs_of (take (suc k) (x ∷ out) ++ drop m (x ∷ out))) next
    ∙ ap (λ (os : List Out). out_of x ∷ os) (removed_without out n k once.1 at)
    ∙ sym (ap (λ (b : Bool). cond (not b) (out_of x ∷ without n (outs_of out)) (without n (outs_of out))) (ne_eqb x.number n differs))

-- ---- who is ready

module _ (out : List Out) (queue : List ℕ) where
  abbrev ready : ℕ → Bool
  ready n = not (is_out out n)

  -- one number of the queue more
  pub ready_more : (at d : ℕ) → at < length queue → ready_in out (take (at + 1) queue) ≡ ready_in out (take at queue) ++ cond (not (is_out out (get_or queue at d))) (get_or queue at d ∷ []) []
  ready_more at d low =
      let next : at + 1 ≡ suc at = omega arith in
      ap (λ (k : ℕ). ready_in out (take k queue)) next ∙ ap (ready_in out) (take-suc queue at d low) ∙ filter-append ready (take at queue) (get_or queue at d ∷ [])

  pub count_more : (at d count : ℕ) → at < length queue → count ≡ length (ready_in out (take at queue)) → is_out out (get_or queue at d) ≡ false → count + 1 ≡ length (ready_in out (take (at + 1) queue))
  count_more at d count low is free =
      let more = ap length (ready_more at d low ∙ ap (λ (b : Bool). ready_in out (take at queue) ++ cond (not b) (get_or queue at d ∷ []) []) free) in
      let sum = length-append (ready_in out (take at queue)) (get_or queue at d ∷ []) in
      omega (arith, is, more, sum)

  pub count_same : (at d count : ℕ) → at < length queue → count ≡ length (ready_in out (take at queue)) → is_out out (get_or queue at d) ≡ true → count ≡ length (ready_in out (take (at + 1) queue))
  count_same at d count low is busy =
      let more = ready_more at d low ∙ ap (λ (b : Bool). ready_in out (take at queue) ++ cond (not b) (get_or queue at d ∷ []) []) busy ∙ append-nil (ready_in out (take at queue)) in
      is ∙ ap length (sym more)

  pub count_all : (at count : ℕ) → length queue ≤ at → count ≡ length (ready_in out (take at queue)) → count ≡ length (ready_in out queue)
  count_all at count high is = is ∙ ap (λ (ns : List ℕ). length (ready_in out ns)) (take_all at queue high)

  seam : (xs : List ℕ) (x : ℕ) (ys : List ℕ) → slice_get (xs ++ x ∷ ys) (length xs) ≡ Some x
  seam [] x ys = refl
  seam (z ∷ xs) x ys = seam xs x ys

  split : (at : ℕ) → (ns : List ℕ) → take at ns ++ drop at ns ≡ ns
  split zero ns = refl
  split (suc at) [] = refl
  split (suc at) (n ∷ ns) = ap (λ (ms : List ℕ). n ∷ ms) (split at ns)

  -- the one at a place of those that are ready
  pub ready_here : (at d place before : ℕ) → at < length queue → before + length (ready_in out (take at queue)) ≡ place → before ≡ 0 → is_out out (get_or queue at d) ≡ false → slice_get (ready_in out queue) place ≡ Some (get_or queue at d)
  ready_here at d place before low is none free =
      let here = get_or queue at d in
      let front = ready_in out (take at queue) in
      let rest = ready_in out (drop (at + 1) queue) in
      let whole : ready_in out queue ≡ (front ++ here ∷ []) ++ rest =
      ap (ready_in out) (sym (split (at + 1) queue)) ∙ filter-append ready (take (at + 1) queue) (drop (at + 1) queue)
      ∙ ap (λ (ns : List ℕ). ns ++ rest) (ready_more at d low ∙ ap (λ (b : Bool). front ++ cond (not b) (here ∷ []) []) free) in
      let counted : place ≡ length front = omega (arith, is, none) in
      ap₂ slice_get (whole ∙ append_assoc front (here ∷ []) rest) counted ∙ seam front here rest

  pub ready_next : (at d place before : ℕ) → at < length queue → before + length (ready_in out (take at queue)) ≡ place → before ≢ 0 → is_out out (get_or queue at d) ≡ false → (before - 1) + length (ready_in out (take (at + 1) queue)) ≡ place
  ready_next at d place before low is some free =
      let more = count_more at d (length (ready_in out (take at queue))) low refl free in
      omega (arith, is, more, some)

  pub ready_past : (at d place before : ℕ) → at < length queue → before + length (ready_in out (take at queue)) ≡ place → is_out out (get_or queue at d) ≡ true → before + length (ready_in out (take (at + 1) queue)) ≡ place
  ready_past at d place before low is busy =
      let same = count_same at d (length (ready_in out (take at queue))) low refl busy in
      omega (arith, is, same)

  beyond : (ns : List ℕ) (k : ℕ) → length ns ≤ k → slice_get ns k ≡ None
  beyond [] k high = refl
  beyond (n ∷ ns) zero high = absurd (omega (arith, high))
  beyond (n ∷ ns) (suc k) high = beyond ns k (omega (arith, high))

  pub ready_none : (at place before : ℕ) → length queue ≤ at → before + length (ready_in out (take at queue)) ≡ place → slice_get (ready_in out queue) place ≡ None
  ready_none at place before high is =
      let all = ap (λ (ns : List ℕ). length (ready_in out ns)) (take_all at queue high) in
      beyond (ready_in out queue) place (omega (arith, is, all))

pub nobody_ready : (ns : List ℕ) → length ns ≡ 0 → ns ≡ []
nobody_ready [] e = refl
nobody_ready (n ∷ ns) e = absurd (omega (arith, e))

-- where nobody is out all are ready
pub all_ready : (queue : List ℕ) → ready_in [] queue ≡ queue
all_ready queue = filter_all (λ n. not (is_out [] n)) queue (λ n h. refl)

-- who is ready isn't out, and is in the queue
pub ready_free : (out : List Out) (queue : List ℕ) (n : ℕ) → Among n (ready_in out queue) → is_out out n ≡ false
ready_free out queue n h = go (is_out out n) refl
  where
    go : (b : Bool) → is_out out n ≡ b → b ≡ false
    go true e = absurd (cc (sym (filter_among (λ m. not (is_out out m)) queue n h) ∙ ap not e))
    go false e = refl

pub ready_queued : (out : List Out) (queue : List ℕ) (n : ℕ) → Among n (ready_in out queue) → Among n queue
ready_queued out queue n h = in_filter (λ m. not (is_out out m)) queue n h

-- ---- some go behind the others

pub behind_none : (queue : List ℕ) → queue ≡ behind [] queue
behind_none queue = sym (append-nil (filter (λ n. not (is_among [] n)) queue) ∙ filter_all (λ n. not (is_among [] n)) queue (λ n h. refl))

filter_twice : (p q : ℕ → Bool) (xs : List ℕ) → filter p (filter q xs) ≡ filter (λ n. q n && p n) xs
filter_twice p q [] = refl
filter_twice p q (x ∷ xs) = go (q x) (filter_twice p q xs)
  where
    go : (b : Bool) → filter p (filter q xs) ≡ filter (λ n. q n && p n) xs → filter p (cond b (x ∷ filter q xs) (filter q xs)) ≡ cond (b && p x) (x ∷ filter (λ n. q n && p n) xs) (filter (λ n. q n && p n) xs)
    go true rest = ap (λ (ns : List ℕ). cond (p x) (x ∷ ns) ns) rest
    go false rest = rest

filter_same : (p q : ℕ → Bool) (xs : List ℕ) → ((n : ℕ) → p n ≡ q n) → filter p xs ≡ filter q xs
filter_same p q [] same = refl
filter_same p q (x ∷ xs) same = ap₂ (λ (b : Bool) (ns : List ℕ). cond b (x ∷ ns) ns) (same x) (filter_same p q xs same)

among_one_more : (ns : List ℕ) (m n : ℕ) → is_among (ns ++ m ∷ []) n ≡ (is_among ns n || m == n)
among_one_more [] m n = or_false (m == n)
  where
    or_false : (b : Bool) → (b || false) ≡ b
    or_false true = refl
    or_false false = refl
among_one_more (x ∷ ns) m n = ap (λ (b : Bool). x == n || b) (among_one_more ns m n) ∙ or_more (x == n) (is_among ns n) (m == n)
  where
    or_more : (a b c : Bool) → (a || (b || c)) ≡ ((a || b) || c)
    or_more true b c = refl
    or_more false b c = refl

others_here : (m : ℕ) (ns : List ℕ) → (Among m ns → ⊥) → others_in m ns ≡ ns
others_here m ns none = filter_all (λ n. not (n == m)) ns (λ n h. ap not (ne_eqb n m (λ e. none (subst (λ (k : ℕ). Among k ns) e h))))

flip : (n m : ℕ) → (n == m) ≡ (m == n)
flip n m = elim (ℕ_discrete n m) [
  | yes e ↦ eq-eqb n m e ∙ sym (eq-eqb m n (sym e))
  | no d ↦ ne_eqb n m d ∙ sym (ne_eqb m n (λ e. d (sym e)))
]

-- one more goes behind the others
pub behind_more : (ns queue : List ℕ) (m : ℕ) → (Among m ns → ⊥) → others_in m (behind ns queue) ++ m ∷ [] ≡ behind (ns ++ m ∷ []) queue
behind_more ns queue m fresh =
    let left = filter (λ n. not (is_among ns n)) queue in
    let both : (n : ℕ) → (not (is_among ns n) && not (n == m)) ≡ not (is_among (ns ++ m ∷ []) n) = λ n.
    de_morgan (is_among ns n) (n == m) ∙ ap not (ap (λ (b : Bool). is_among ns n || b) (flip n m) ∙ sym (among_one_more ns m n)) in
    ap (λ (xs : List ℕ). xs ++ m ∷ []) (filter-append (λ n. not (n == m)) left ns ∙ ap₂ (λ (xs ys : List ℕ). xs ++ ys) (filter_twice (λ n. not (n == m)) (λ n. not (is_among ns n)) queue ∙ filter_same _ _ queue both) (others_here m ns fresh))
    ∙ append_assoc (filter (λ n. not (is_among (ns ++ m ∷ []) n)) queue) ns (m ∷ [])
  where
    de_morgan : (a b : Bool) → (not a && not b) ≡ not (a || b)
    de_morgan true b = refl
    de_morgan false b = refl

once_append : (xs ys : List ℕ) → EachOnce xs → EachOnce ys → ((n : ℕ) → Among n xs → Among n ys → ⊥) → EachOnce (xs ++ ys)
once_append [] ys first second apart = second
once_append (x ∷ xs) ys first second apart = (λ h. go (either xs x h), once_append xs ys first.1 second (λ n h h'. apart n (inr h) h'))
  where
    either : (zs : List ℕ) (n : ℕ) → Among n (zs ++ ys) → Among n zs ⊎ Among n ys
    either [] n h = inr h
    either (z ∷ zs) n (inl e) = inl (inl e)
    either (z ∷ zs) n (inr h) = more (either zs n h)
      where
        more : Among n zs ⊎ Among n ys → Among n (z ∷ zs) ⊎ Among n ys
        more (inl k) = inl (inr k)
        more (inr k) = inr k

    go : Among x xs ⊎ Among x ys → ⊥
    go (inl h) = first.0 h
    go (inr h) = apart x (inl refl) h

-- each is there once still
pub once_behind : (ns queue : List ℕ) → EachOnce ns → EachOnce queue → EachOnce (behind ns queue)
once_behind ns queue own all =
    once_append (filter (λ n. not (is_among ns n)) queue) ns (once_filter (λ n. not (is_among ns n)) queue all) own
    (λ n h h'. cc (sym (filter_among (λ m. not (is_among ns m)) queue n h) ∙ ap not (is_among_from ns n h')))

-- and who was there is there still
pub among_behind : (ns queue : List ℕ) (n : ℕ) → Among n queue → Among n (behind ns queue)
among_behind ns queue n h = go (is_among ns n) refl
  where
    left : (xs ys : List ℕ) → Among n xs → Among n (xs ++ ys)
    left [] ys k = absurd k
    left (x ∷ xs) ys (inl e) = inl e
    left (x ∷ xs) ys (inr k) = inr (left xs ys k)

    right : (xs ys : List ℕ) → Among n ys → Among n (xs ++ ys)
    right [] ys k = k
    right (x ∷ xs) ys k = inr (right xs ys k)

    go : (b : Bool) → is_among ns n ≡ b → Among n (behind ns queue)
    go true e = right (filter (λ m. not (is_among ns m)) queue) ns (among_is ns n e)
    go false e = left (filter (λ m. not (is_among ns m)) queue) ns (among_filter (λ m. not (is_among ns m)) queue n h (ap not e))

pub of_behind : (ns queue : List ℕ) (n : ℕ) → ((m : ℕ) → Among m ns → Among m queue) → Among n (behind ns queue) → Among n queue
of_behind ns queue n those h = go (filter (λ m. not (is_among ns m)) queue) (λ k. in_filter (λ m. not (is_among ns m)) queue n k) h
  where
    go : (xs : List ℕ) → (Among n xs → Among n queue) → Among n (xs ++ ns) → Among n queue
    go [] left k = those n k
    go (x ∷ xs) left (inl e) = left (inl e)
    go (x ∷ xs) left (inr k) = go xs (λ i. left (inr i)) k

-- ---- those that were sorted

pub once_take : (k : ℕ) (ns : List ℕ) → EachOnce ns → EachOnce (take k ns)
once_take zero ns once = tt
once_take (suc k) [] once = tt
once_take (suc k) (n ∷ ns) once = ((λ h. once.0 (of_take k ns n h)), once_take k ns once.1)
  where
    of_take : (k : ℕ) (ms : List ℕ) (n : ℕ) → Among n (take k ms) → Among n ms
    of_take zero ms n h = absurd h
    of_take (suc k) [] n h = absurd h
    of_take (suc k) (m ∷ ms) n (inl e) = inl e
    of_take (suc k) (m ∷ ms) n (inr h) = inr (of_take k ms n h)

-- the one at a place isn't before it
pub fresh_at : (k : ℕ) (ns : List ℕ) (n : ℕ) → EachOnce ns → slice_get ns k ≡ Some n → Among n (take k ns) → ⊥
fresh_at zero ns n once at h = h
fresh_at (suc k) [] n once at h = h
fresh_at (suc k) (m ∷ ns) n once at (inl e) = once.0 (subst (λ (x : ℕ). Among x ns) e (among_at ns k n at))
fresh_at (suc k) (m ∷ ns) n once at (inr h) = fresh_at k ns n once.1 at h

pub take_more : (k : ℕ) (ns : List ℕ) (n : ℕ) → slice_get ns k ≡ Some n → take (k + 1) ns ≡ take k ns ++ n ∷ []
take_more k ns n at = ap (λ (i : ℕ). take i ns) next ∙ go k ns at
  where
    next : k + 1 ≡ suc k
    next = omega arith

    go : (i : ℕ) (ms : List ℕ) → slice_get ms i ≡ Some n → take (suc i) ms ≡ take i ms ++ n ∷ []
    go i [] e = absurd (cc e)
    go zero (m ∷ ms) e = let same : m ≡ n = cc e in ap (λ (x : ℕ). x ∷ []) same
    go (suc i) (m ∷ ms) e = ap (λ (xs : List ℕ). m ∷ xs) (go i ms e)

apart_all : (n : ℕ) (ms : List ℕ) → AllByRecursion (λ y. (n == y) ≡ false) ms → Among n ms → ⊥
apart_all n [] all k = k
apart_all n (m ∷ ms) all (inl e) = cc (sym (eq-eqb n m e) ∙ all.0)
apart_all n (m ∷ ms) all (inr k) = apart_all n ms all.1 k

all_apart : (n : ℕ) (ms : List ℕ) → (Among n ms → ⊥) → AllByRecursion (λ y. (n == y) ≡ false) ms
all_apart n [] none = tt
all_apart n (m ∷ ms) none = (ne_eqb n m (λ e. none (inl e)), all_apart n ms (λ k. none (inr k)))

distinct_once : (ns : List ℕ) → IsDistinct (λ x y. x == y) ns → EachOnce ns
unfolding IsDistinct
distinct_once [] h = tt
distinct_once (n ∷ ns) h = ((λ k. apart_all n ns h.0 k), distinct_once ns h.1)

once_distinct : (ns : List ℕ) → EachOnce ns → IsDistinct (λ x y. x == y) ns
unfolding IsDistinct
once_distinct [] h = tt
once_distinct (n ∷ ns) h = (all_apart n ns h.0, once_distinct ns h.1)

numbers_permuted : (out sorted : List Taken) → IsPermutation out sorted → IsPermutation (numbers_out (outs_of out)) (numbers_out (outs_of sorted))
numbers_permuted out sorted same = IsPermutation-map (λ (o : Out). o.number) (outs_of out) (outs_of sorted) (IsPermutation-map out_of out sorted same)

pub once_sorted : (out sorted : List Taken) → IsPermutation out sorted → EachOnce (numbers_out (outs_of out)) → EachOnce (numbers_out (outs_of sorted))
once_sorted out sorted same once =
    distinct_once (numbers_out (outs_of sorted)) (IsDistinct-IsPermutation (λ x y. x == y) flip (numbers_out (outs_of out)) (numbers_out (outs_of sorted)) (numbers_permuted out sorted same) (once_distinct (numbers_out (outs_of out)) once))

among_permuted : (ns ms : List ℕ) → IsPermutation ns ms → (n : ℕ) → is_among ns n ≡ is_among ms n
among_permuted ns ms same n = list_any-IsPermutation (λ m. m == n) ns ms same

pub of_sorted : (out sorted : List Taken) → IsPermutation out sorted → (n : ℕ) → Among n (numbers_out (outs_of sorted)) → Among n (numbers_out (outs_of out))
of_sorted out sorted same n h =
    among_is (numbers_out (outs_of out)) n (among_permuted (numbers_out (outs_of out)) (numbers_out (outs_of sorted)) (numbers_permuted out sorted same) n ∙ is_among_from (numbers_out (outs_of sorted)) n h)

rises : (out : List Taken) → IsNonDecreasingBy (λ (t : Taken). t.number) out → IsNonDecreasing (numbers_out (outs_of out))
rises [] up i j d le low = absurd (omega (arith, low))
rises (x ∷ out) up i j d le low =
    let ns = numbers_out (outs_of (x ∷ out)) in
    let many = as_many (x ∷ out) in
    let first = get_or_from_slice_get ns i (get_or (x ∷ out) i x).number d (number_at (x ∷ out) i x (omega (arith, le, low, many))) in
    let second = get_or_from_slice_get ns j (get_or (x ∷ out) j x).number d (number_at (x ∷ out) j x (omega (arith, low, many))) in
    let h = up i j x le (omega (arith, low, many)) in
    omega (arith, first, second, h)

pub called_back : (out sorted : List Taken) (queue later : List ℕ) → IsPermutation out sorted → IsNonDecreasingBy (λ (t : Taken). t.number) sorted → later ≡ behind (numbers_out (outs_of sorted)) queue → IsCalledBack (outs_of out) queue later
called_back out sorted queue later same up is = record {
  numbers = numbers_out (outs_of sorted);
  ascend = rises sorted up;
  those = numbers_permuted out sorted same;
  queue_is = is ∙ ap (λ (ns : List ℕ). ns ++ numbers_out (outs_of sorted)) (filter_same _ _ queue (λ n. ap not (sym (among_permuted (numbers_out (outs_of out)) (numbers_out (outs_of sorted)) (numbers_permuted out sorted same) n))));
}

-- within a list it doesn't matter what stands beyond
pub get_or_any : (ns : List ℕ) (k x d : ℕ) → k < length ns → x ≡ get_or ns k x → x ≡ get_or ns k d
get_or_any [] k x d low e = absurd (omega (arith, low))
get_or_any (n ∷ ns) zero x d low e = e
get_or_any (n ∷ ns) (suc k) x d low e = get_or_any ns k x d (omega (arith, low)) e
