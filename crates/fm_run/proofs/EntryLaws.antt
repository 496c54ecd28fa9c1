-- The last entry of a schedule, and the choices of schedules whose last entry grew.
use Rattle.std.proofs.Common.{◌≡◌, ◌≢◌, ◌⊎◌, inl, inr, ℕ, zero, suc, ◌+◌, ◌-◌, ◌<◌, ◌≤◌, Bool, true, false, Option, Some, None, List, [], ◌∷◌, ◌++◌, length, length-append, get_or, take, replicate, refl, sym, ap, ap₂, ◌∙◌, subst, append_assoc, append-nil, arith}
use Rattle.std.specs.List.{flat_map}
use Rattle.std.proofs.lemmas.Grind.{flat_map-append}
use Rattle.std.proofs.Math.Seq.{take-suc}
use Rattle.std.specs.Prelude.{MatchOption, option_to_list, option_and_then, option_map, slice_get, slice_set, slice_index_or}
use Rattle.std.proofs.lemmas.List.{get_or_past}
use Rattle.fm_base.specs.declared.schedule.Turn.{Turn}
use Rattle.fm_net.specs.Machine.{Place}
use Rattle.fm_net.specs.Starts.{choices_of}
use Rattle.fm_run.specs.Entries.{EndsWith, lengthened, turn_of, with_piece}
use Rattle.fm_run.specs.Orders.{Among, AreMarked, is_among}
use Rattle.fm_run.specs.Runs.{HaveSteps}
use Rattle.fm_run.proofs.Numbers.{among_is}

-- the last entry grows
pub lengthened_last : (front : List Turn) (t : Turn) (steps : ℕ) → lengthened steps (front ++ t ∷ []) ≡ front ++ turn_of t.number (t.steps + steps) ∷ []
lengthened_last [] t steps = refl
lengthened_last (a ∷ []) t steps = refl
lengthened_last (a ∷ b ∷ front) t steps = ap (λ (ts : List Turn). a ∷ ts) (lengthened_last (b ∷ front) t steps)

-- behind others
pub lengthened_behind : (front ts : List Turn) (steps : ℕ) → ts ≢ [] → lengthened steps (front ++ ts) ≡ front ++ lengthened steps ts
lengthened_behind [] ts steps some = refl
lengthened_behind (a ∷ front) [] steps some = absurd (some refl)
lengthened_behind (a ∷ []) (t ∷ ts) steps some = refl
lengthened_behind (a ∷ b ∷ front) (t ∷ ts) steps some = ap (λ (us : List Turn). a ∷ us) (lengthened_behind (b ∷ front) (t ∷ ts) steps some)

-- in its place
pub lengthened_at : (ts : List Turn) (t u : Turn) (steps k : ℕ) → ((front : List Turn) → lengthened steps (front ++ t ∷ []) ≡ front ++ u ∷ []) → k + 1 ≡ length ts → slice_get ts k ≡ Some t → slice_set ts k u ≡ lengthened steps ts
lengthened_at [] t u steps k longer is at = absurd (cc at)
lengthened_at (a ∷ []) t u steps zero longer is at =
    let same : a ≡ t = cc at in
    sym (ap (λ (x : Turn). lengthened steps (x ∷ [])) same ∙ longer [])
lengthened_at (a ∷ []) t u steps (suc k) longer is at = absurd (omega (arith, is))
lengthened_at (a ∷ b ∷ ts) t u steps zero longer is at = absurd (omega (arith, is))
lengthened_at (a ∷ b ∷ ts) t u steps (suc k) longer is at =
    let left : k + 1 ≡ length (b ∷ ts) = omega (arith, is) in
    ap (λ (us : List Turn). a ∷ us) (lengthened_at (b ∷ ts) t u steps k longer left at)

-- in its place behind others
pub lengthened_set : (front ts : List Turn) (t u : Turn) (steps k : ℕ) → ((more : List Turn) → lengthened steps (more ++ t ∷ []) ≡ more ++ u ∷ []) → k + 1 ≡ length ts → slice_get ts k ≡ Some t → front ++ slice_set ts k u ≡ lengthened steps (front ++ ts)
lengthened_set front [] t u steps k longer is at = absurd (cc at)
lengthened_set front (a ∷ ts) t u steps k longer is at = ap (λ (us : List Turn). front ++ us) (lengthened_at (a ∷ ts) t u steps k longer is at) ∙ sym (lengthened_behind front (a ∷ ts) steps (λ e. cc e))

-- what stands at a place is got from there
pub got_at : (ts : List Turn) (k : ℕ) (t : Turn) → k + 1 ≡ length ts → t ≡ slice_index_or ts k t → slice_get ts k ≡ Some t
got_at [] k t is at = absurd (omega (arith, is))
got_at (a ∷ ts) zero t is at = ap Some (sym at)
got_at (a ∷ ts) (suc k) t is at =
    let left : k + 1 ≡ length ts = omega (arith, is) in
    got_at ts k t left at

-- nothing stands behind what ended so
pub same_front : (xs ys front : List Turn) (t u : Turn) → (xs ++ ys) ++ t ∷ [] ≡ front ++ u ∷ [] → xs ++ ys ≡ front
same_front xs ys front t u e = same (xs ++ ys) front t u e
  where
    same : (ts us : List Turn) (a b : Turn) → ts ++ a ∷ [] ≡ us ++ b ∷ [] → ts ≡ us
    same [] [] a b h = refl
    same [] (d ∷ []) a b h = absurd (cc h)
    same [] (d ∷ f ∷ us) a b h = absurd (cc h)
    same (x ∷ []) [] a b h = absurd (cc h)
    same (x ∷ y ∷ ts) [] a b h = absurd (cc h)
    same (x ∷ ts) (d ∷ us) a b h =
        let head : x ≡ d = cc h in
        let rest : ts ++ a ∷ [] ≡ us ++ b ∷ [] = cc h in
        ap₂ (λ (z : Turn) (zs : List Turn). z ∷ zs) head (same ts us a b rest)

-- the choices are those of one entry more, whose process is the same
pub replicate-append : {X : Type 0} (n m : ℕ) (x : X) → replicate (n + m) x ≡ replicate n x ++ replicate m x
replicate-append zero m x =
    let e : zero + m ≡ m = omega arith in
    ap (λ (k : ℕ). replicate k x) e
replicate-append (suc n) m x =
    let e : suc n + m ≡ suc (n + m) = omega arith in
    ap (λ (k : ℕ). replicate k x) e ∙ ap (λ xs. x ∷ xs) (replicate-append n m x)

grown : (t : Turn) (number steps : ℕ) (ps : List Place) → t.number ≡ number → choices_of (turn_of t.number (t.steps + steps) ∷ []) ps ≡ choices_of (t ∷ turn_of number steps ∷ []) ps
grown t number steps ps same =
    go (slice_get ps t.number) refl ∙ ap (λ (n : ℕ). choices_of (t ∷ turn_of n steps ∷ []) ps) same
  where
    go : (o : Option Place) → slice_get ps t.number ≡ o → choices_of (turn_of t.number (t.steps + steps) ∷ []) ps ≡ choices_of (t ∷ turn_of t.number steps ∷ []) ps
    go None e =
        ap (option_and_then (λ (p : Place). option_map (λ cs. replicate (t.steps + steps) p ++ cs) (Some []))) e
        ∙ sym (ap (option_and_then (λ (p : Place). option_map (λ cs. replicate t.steps p ++ cs) (choices_of (turn_of t.number steps ∷ []) ps))) e)
    go (Some p) e =
        ap (option_and_then (λ (q : Place). option_map (λ cs. replicate (t.steps + steps) q ++ cs) (Some []))) e
        ∙ ap Some (ap (λ cs. cs ++ []) (replicate-append t.steps steps p) ∙ append_assoc (replicate t.steps p) (replicate steps p) [])
        ∙ sym (ap (option_and_then (λ (q : Place). option_map (λ cs. replicate t.steps q ++ cs) (choices_of (turn_of t.number steps ∷ []) ps))) e
        ∙ ap (λ o. option_map (λ cs. replicate t.steps p ++ cs) (option_and_then (λ (q : Place). option_map (λ cs. replicate steps q ++ cs) (Some [])) o)) e)

behind_first : (t : Turn) (ts us : List Turn) (ps : List Place) → choices_of ts ps ≡ choices_of us ps → choices_of (t ∷ ts) ps ≡ choices_of (t ∷ us) ps
behind_first t ts us ps e = ap (λ o. option_and_then (λ (p : Place). option_map (λ cs. replicate t.steps p ++ cs) o) (slice_get ps t.number)) e

choices_front : (front : List Turn) (t : Turn) (number steps : ℕ) (ps : List Place) → t.number ≡ number → choices_of (front ++ turn_of t.number (t.steps + steps) ∷ []) ps ≡ choices_of ((front ++ t ∷ []) ++ turn_of number steps ∷ []) ps
choices_front [] t number steps ps same = grown t number steps ps same
choices_front (a ∷ front) t number steps ps same = behind_first a (front ++ turn_of t.number (t.steps + steps) ∷ []) ((front ++ t ∷ []) ++ turn_of number steps ∷ []) ps (choices_front front t number steps ps same)

-- a piece names the same choices, be it joined to the last entry or one of its own
pub choices_joined : (ts : List Turn) (number steps : ℕ) (ps : List Place) → EndsWith ts number → choices_of (with_piece true ts number steps) ps ≡ choices_of (with_piece false ts number steps) ps
choices_joined ts number steps ps ends =
    ap (λ (us : List Turn). choices_of (lengthened steps us) ps) ends.whole ∙ ap (λ (us : List Turn). choices_of us ps) (lengthened_last ends.front ends.last steps)
    ∙ choices_front ends.front ends.last number steps ps ends.number_is ∙ ap (λ (us : List Turn). choices_of (us ++ turn_of number steps ∷ []) ps) (sym ends.whole)

steps_last : (front : List Turn) (t : Turn) (steps : ℕ) → HaveSteps (front ++ t ∷ []) → HaveSteps (front ++ turn_of t.number (t.steps + steps) ∷ [])
steps_last [] t steps have = (let low = have.0 in omega (arith, low), tt)
steps_last (a ∷ front) t steps have = (have.0, steps_last front t steps have.1)

pub steps_joined : (ts : List Turn) (number steps : ℕ) → EndsWith ts number → HaveSteps ts → HaveSteps (with_piece true ts number steps)
steps_joined ts number steps ends have =
    subst HaveSteps (sym (ap (lengthened steps) ends.whole ∙ lengthened_last ends.front ends.last steps)) (steps_last ends.front ends.last steps (subst HaveSteps ends.whole have))

-- a number is marked where it is in the queue, also one behind the last process
pub marked_among : (count : ℕ) (marks : List Bool) (numbers : List ℕ) (n : ℕ) → AreMarked count marks numbers → ((m : ℕ) → Among m numbers → m < count) → slice_index_or marks n false ≡ is_among numbers n
marked_among count marks numbers n marked within = go (low_or_high n count)
  where
    low_or_high : (a b : ℕ) → (a < b) ⊎ (b ≤ a)
    low_or_high a b = grind arith

    none : (b : Bool) → is_among numbers n ≡ b → count ≤ n → b ≡ false
    none true e high = absurd (omega (arith, high, within n (among_is numbers n e)))
    none false e high = refl

    go : (n < count) ⊎ (count ≤ n) → slice_index_or marks n false ≡ is_among numbers n
    go (inl low) = marked.marked n low
    go (inr high) =
        let past : length marks ≤ n = omega (arith, marked.whole, high) in
        get_or_past marks n false past ∙ sym (none (is_among numbers n) refl high)

-- ---- entries in chunks

module _ {V : Type 0} (items : V → List Turn) where
  chunks_with : (whole : List V) (chunk : V) → flat_map items (whole ++ chunk ∷ []) ≡ flat_map items whole ++ items chunk
  chunks_with whole chunk = flat_map-append items whole (chunk ∷ []) ∙ ap (λ (ts : List Turn). flat_map items whole ++ ts) (append-nil (items chunk))

  -- the last chunk comes back where nothing stands behind it
  pub chunk_back : (whole left : List V) (chunk : V) (last all : List Turn) → whole ≡ left ++ chunk ∷ [] → last ≡ [] → flat_map items whole ++ last ≡ all → flat_map items left ++ items chunk ≡ all
  chunk_back whole left chunk last all whole_is none is =
      sym (chunks_with left chunk) ∙ sym (ap (flat_map items) whole_is) ∙ sym (append-nil (flat_map items whole)) ∙ ap (λ (ts : List Turn). flat_map items whole ++ ts) (sym none) ∙ is

  -- a full chunk goes behind the others, and a new one begins
  pub chunk_more : (whole later : List V) (full next : V) (t : Turn) → later ≡ whole ++ full ∷ [] → items next ≡ t ∷ [] → flat_map items later ++ items next ≡ (flat_map items whole ++ items full) ++ t ∷ []
  chunk_more whole later full next t later_is next_is = ap₂ (λ (xs ys : List Turn). xs ++ ys) (ap (flat_map items) later_is ∙ chunks_with whole full) next_is

  -- a chunk more was put behind the others
  pub chunk_put : (count : ℕ) (all later : List Turn) (chunks : List V) (d : V) → count < length chunks → all ≡ flat_map items (take count chunks) → later ≡ all ++ items (get_or chunks count d) → later ≡ flat_map items (take (count + 1) chunks)
  chunk_put count all later chunks d low was is =
      let next : suc count ≡ count + 1 = omega arith in
      is ∙ ap (λ (ts : List Turn). ts ++ items (get_or chunks count d)) was ∙ sym (chunks_with (take count chunks) (get_or chunks count d)) ∙ sym (ap (flat_map items) (take-suc chunks count d low))
      ∙ ap (λ (n : ℕ). flat_map items (take n chunks)) next

-- the last entry goes, if there is one
module _ (xs mid ys : List Turn) (o : Option Turn) (popped : mid ≡ ys ++ option_to_list o) (empty : o ≡ None → mid ≡ []) (filled : mid ≡ [] → xs ≡ []) where
  no_last : (us : List Turn) (v : Turn) → us ++ v ∷ [] ≡ [] → ⊥
  no_last [] v e = cc e
  no_last (u ∷ us) v e = cc e

  pub without_last : (front : List Turn) (t : Turn) → xs ++ mid ≡ front ++ t ∷ [] → xs ++ ys ≡ front
  without_last front t is = go o refl
    where
      go : (p : Option Turn) → o ≡ p → xs ++ ys ≡ front
      go None e = absurd (no_last front t (sym is ∙ ap₂ (λ (us vs : List Turn). us ++ vs) (filled (empty e)) (empty e)))
      go (Some u) e = same_front xs ys front u t (append_assoc xs ys (u ∷ []) ∙ ap (λ (vs : List Turn). xs ++ vs) (sym (popped ∙ ap (λ (p : Option Turn). ys ++ option_to_list p) e)) ∙ is)

  pub one_less : length (xs ++ ys) ≡ length (xs ++ mid) - 1
  one_less = go o refl
    where
      go : (p : Option Turn) → o ≡ p → length (xs ++ ys) ≡ length (xs ++ mid) - 1
      go None e =
          let none : mid ≡ [] = empty e in
          let left : ys ++ [] ≡ mid = sym (popped ∙ ap (λ (p : Option Turn). ys ++ option_to_list p) e) in
          let nothing : xs ++ mid ≡ [] = ap₂ (λ (us vs : List Turn). us ++ vs) (filled none) none in
          let same : xs ++ ys ≡ xs ++ mid = ap (λ (vs : List Turn). xs ++ vs) (sym (append-nil ys) ∙ left) in
          let zero_long = ap length nothing in
          let as_long = ap length same in
          omega (arith, zero_long, as_long)
      go (Some u) e =
          let whole : xs ++ mid ≡ (xs ++ ys) ++ u ∷ [] = ap (λ (vs : List Turn). xs ++ vs) (popped ∙ ap (λ (p : Option Turn). ys ++ option_to_list p) e) ∙ sym (append_assoc xs ys (u ∷ [])) in
          let counted = ap length whole in
          omega (arith, counted, length-append (xs ++ ys) (u ∷ []))

pub none_then : {A : Type 0} (P : Type 0) (Q : A → Type 0) (o : Option A) (n : ℕ) → MatchOption o ((n ≡ 0) × P) Q → o ≡ None → n ≡ 0
none_then P Q None n m e = m.0
none_then P Q (Some x) n m e = absurd (cc e)

pub no_entries : {X : Type 0} (xs : List X) → length xs ≡ 0 → xs ≡ []
no_entries [] e = refl
no_entries (x ∷ xs) e = absurd (omega (arith, e))
