-- Each step of a seat keeps the rule.
use Rattle.std.proofs.Common.{◌≡◌, ◌≢◌, ◌⊎◌, ℕ, zero, suc, ◌+◌, ◌*◌, ◌%◌, ◌^◌, ◌<◌, ◌≤◌, List, [], ◌∷◌, ◌++◌, length, map, get_or, set, drop, leb, cond, true, false, Bool, sym, refl, ap, ◌∙◌, subst, subst₂, inl, inr, ⊎_elim, length-append, length-set, All, Option, Some, None, slice_get, slice_index, bit_or, arith, is_some, Result, Ok, Err, IfOk, OnErr, length-take, length-drop, take_all, take-append-drop, true≢false}
use Rattle.std.specs.List.{enumerate_from}
use Rattle.std.specs.List.Sorted.{IsStrictlyIncreasing}
use mathlib.Core.Option.{Option as Maybe, some, none, some-injective, some-ne-none}
use mathlib.Core.List.{IsPrefix}
use lib.ListN.{get_elem?}
use Rattle.std.proofs.lemmas.List.Elements.{All-append, All-weaker, All-nil}
use Rattle.std.proofs.lemmas.List.{map-append, take-append-le, drop-append-le}
use Rattle.std.proofs.lemmas.Bool.Decides.{nat_tests}
use Rattle.atomic_table.specs.Table.{State, Act, keeps, takes, gives, Step, step, Valid, homes_after, carried_after, Allows, Splits, Joins, rest, opening, Final, Seen}
use Rattle.atomic_table.proofs.Lists.{at_set, set_here}
use Rattle.fm_base.specs.declared.schedule.Turn.{Turn}
use Rattle.fm_hub.specs.declared.view.SeatView.{SeatView}
use Rattle.fm_workers.specs.declared.shared.Given.{Given}
use Rattle.fm_workers.specs.declared.shared.Given.TheVariants.{Played, Stranger, Over}
use Rattle.fm_workers.specs.Histories.{entry, HasGrown, IsGiven}
use Rattle.fm_hub.specs.Histories.{start_in, Began}
use Rattle.fm_hub.specs.Hubs.{HasMade}
use Rattle.fm_hub.specs.Rules.{view, newcomer, tried, holding, added_since, freed, longer, shorter, joined, untold, Fits, HoldsAt, IsFree, IsTaken, SeatRule, Seated, Tries, Frees, Compares}
use Rattle.fm_hub.proofs.Prefixes.{prefix_self, prefix_trans, prefix_shorter, prefix_length, prefix_get}
use Rattle.fm_hub.proofs.Places.{increasing-append, enumerate_rises, enumerate_starts, enumerate_stands, enumerate_more, or_even, or_odd}

abbrev Each : (ℕ → SeatView → Type 0) → List SeatView → Type 0
Each F views = (id : ℕ) (v : SeatView) → get_elem? views id ≡ some v → F id v

each_set : (F : ℕ → SeatView → Type 0) (views : List SeatView) (id : ℕ) (w : SeatView) → F id w → ((j : ℕ) (u : SeatView) → j ≢ id → get_elem? views j ≡ some u → F j u) → Each F (set views id w)
each_set F views id w mine others j u e = ⊎_elim (λ (x : (j ≡ id) × (w ≡ u)). subst (λ (y : ℕ × SeatView). F y.0 y.1) (λ i. (sym x.0 i, x.1 i)) mine)
    (λ (x : (j ≢ id) × (get_elem? views j ≡ some u)). others j u x.0 x.1) (at_set views id j w u e)

here_at : {A : Type 0} (xs : List A) (k : ℕ) (x : A) → get_elem? xs k ≡ some x → k < length xs
here_at [] k x e = absurd (some-ne-none x (sym e))
here_at (y ∷ ys) zero x e = omega arith
here_at (y ∷ ys) (suc k) x e = let lt = here_at ys k x e in omega arith

at_end : {A : Type 0} (xs : List A) (a b : A) (k : ℕ) → get_elem? (xs ++ a ∷ []) k ≡ some b → (get_elem? xs k ≡ some b) ⊎ ((k ≡ length xs) × (a ≡ b))
at_end [] a b zero e = inr (refl, some-injective a b e)
at_end [] a b (suc k) e = absurd (some-ne-none b (sym e))
at_end (x ∷ xs) a b zero e = inl e
at_end (x ∷ xs) a b (suc k) e = ⊎_elim (λ h. inl h) (λ h. inr (ap suc h.0, h.1)) (at_end xs a b k e)

-- the history may grow
grown : (log more : List Turn) (v : SeatView) → IsPrefix log more → Fits log v → Fits more v
grown log more v p f = record { seen = prefix_trans v.seen log more f.seen p; told = prefix_trans v.told log more f.told p; mine = f.mine; once = f.once }

no_entries : (seen : List Turn) → All (λ (p : ℕ × Turn). slice_get seen p.0 ≡ Some p.1) []
no_entries seen = All-nil (λ (p : ℕ × Turn). slice_get seen p.0 ≡ Some p.1)

no_rise : IsStrictlyIncreasing []
no_rise k lt = absurd (omega arith)

pub fits_newcomer : (log seen : List Turn) → IsPrefix seen log → Fits log (newcomer seen)
fits_newcomer log seen p = record { seen = p; told = (log, refl); mine = no_entries seen; once = no_rise }

some_injective : (xs ys : List Turn) → Some xs ≡ Some ys → xs ≡ ys
some_injective xs ys e = ap start_in e

-- what the seat played while it had the turn stands in the history, at its places
freed_fits : (log hist : List Turn) (v : SeatView) → v.held ≡ Some log → IsPrefix log hist → Fits log v → Fits hist (freed v hist)
freed_fits log hist v held began f =
    let start : List Turn = start_in v.held in
    let is : start ≡ log = ap start_in held in
    let same : start ++ drop (length start) hist ≡ hist = subst (λ (l : List Turn). l ++ drop (length l) hist ≡ hist) (sym is) (whole log hist began) in
    let more : List (ℕ × Turn) = enumerate_from (length start) (drop (length start) hist) in
    let P : ℕ × Turn → Type 0 = λ p. slice_get hist p.0 ≡ Some p.1 in
    let old : All P v.mine = All-weaker (λ (p : ℕ × Turn). slice_get v.seen p.0 ≡ Some p.1) P (λ p h. prefix_get v.seen hist p.0 p.1 (prefix_trans v.seen log hist f.seen began) h) v.mine f.mine in
    let new : All P more = subst (λ (l : List Turn). All (λ (p : ℕ × Turn). slice_get l p.0 ≡ Some p.1) more) same (enumerate_stands (length start) start (drop (length start) hist) refl) in
    record {
      seen = prefix_self hist;
      told = prefix_trans v.told log hist f.told began;
      mine = All-append P v.mine more old new;
      once = subst IsStrictlyIncreasing (sym (map-append (λ (p : ℕ × Turn). p.0) v.mine more))
          (increasing-append (map (λ (p : ℕ × Turn). p.0) v.mine) (map (λ (p : ℕ × Turn). p.0) more) f.once (enumerate_rises (length start) (drop (length start) hist))
          (λ i lt some_more. subst (λ k. get_or (map (λ (p : ℕ × Turn). p.0) v.mine) i 0 < k) (sym (enumerate_starts (length start) (drop (length start) hist) some_more)) (below log start is v f i lt)));
    } where
      whole : (log hist : List Turn) → IsPrefix log hist → log ++ drop (length log) hist ≡ hist
      whole [] hist p = refl
      whole (x ∷ xs) [] p = absurd (cc (p.1))
      whole (x ∷ xs) (y ∷ ys) p = let r : xs ++ drop (length xs) ys ≡ ys = whole xs ys (p.0, cc (p.1)) in cc (p.1, r)

      within : (xs : List Turn) (k : ℕ) (x : Turn) → slice_get xs k ≡ Some x → k < length xs
      within [] k x e = absurd cc
      within (y ∷ ys) zero x e = omega arith
      within (y ∷ ys) (suc k) x e = let lt = within ys k x e in omega arith

      places : (mine : List (ℕ × Turn)) (i : ℕ) (d : ℕ × Turn) → i < length (map (λ (p : ℕ × Turn). p.0) mine) → (get_or (map (λ (p : ℕ × Turn). p.0) mine) i 0 ≡ (get_or mine i d).0) × (i < length mine)
      places [] i d lt = absurd (omega arith)
      places (p ∷ ps) zero d lt = (refl, omega arith)
      places (p ∷ ps) (suc i) d lt = let r = places ps i d (omega arith) in let l = r.1 in (r.0, omega arith)

      below : (log start : List Turn) → start ≡ log → (v : SeatView) → Fits log v → (i : ℕ) → i < length (map (λ (p : ℕ × Turn). p.0) v.mine) → get_or (map (λ (p : ℕ × Turn). p.0) v.mine) i 0 < length start
      below log start is v f i lt = let d : ℕ × Turn = (0, record { number = 0; steps = 0 }) in let p = places v.mine i d lt in
          let a = within v.seen (get_or v.mine i d).0 (get_or v.mine i d).1 (f.mine i d p.1) in
          let b = prefix_length v.seen log f.seen in let c = ap length is in let e = p.0 in omega arith

joined_fits : (log : List Turn) (v u : SeatView) → Fits log v → Fits log u → Fits log (joined v u)
joined_fits log v u f g = by (leb (length v.seen) (length u.seen)) refl where
  by : (b : Bool) → leb (length v.seen) (length u.seen) ≡ b → Fits log (view (cond b u.seen v.seen) v.mine v.tries v.last v.held (cond b v.seen u.seen))
  by true is = let le : length v.seen ≤ length u.seen = grind (arith, nat_tests) in
      let p = prefix_shorter v.seen u.seen log f.seen g.seen le in
      record {
        seen = g.seen;
        told = f.seen;
        mine = All-weaker (λ (p : ℕ × Turn). slice_get v.seen p.0 ≡ Some p.1) (λ (p : ℕ × Turn). slice_get u.seen p.0 ≡ Some p.1) (λ q h. prefix_get v.seen u.seen q.0 q.1 p h) v.mine f.mine;
        once = f.once;
      }
  by false is = record { seen = f.seen; told = g.seen; mine = f.mine; once = f.once }

-- what a seat that was joined has seen
pub joined_seen : (v u : SeatView) → IsPrefix (shorter v.seen u.seen) (longer v.seen u.seen) → IsPrefix v.seen (longer v.seen u.seen) × IsPrefix u.seen (longer v.seen u.seen)
joined_seen v u p = by (leb (length v.seen) (length u.seen)) p where
  by : (b : Bool) → IsPrefix (cond b v.seen u.seen) (cond b u.seen v.seen) → IsPrefix v.seen (cond b u.seen v.seen) × IsPrefix u.seen (cond b u.seen v.seen)
  by true p = (p, prefix_self u.seen)
  by false p = (prefix_self v.seen, p)

pub joined_order : (v u : SeatView) → length (shorter v.seen u.seen) ≤ length (longer v.seen u.seen)
joined_order v u = by (leb (length v.seen) (length u.seen)) refl where
  by : (b : Bool) → leb (length v.seen) (length u.seen) ≡ b → length (cond b v.seen u.seen) ≤ length (cond b u.seen v.seen)
  by true is = grind (arith, nat_tests)
  by false is = grind (arith, nat_tests)

-- ---- the history that was held
pub began_at : (held : Option (List Turn)) (log : List Turn) → Began held log → (held ≡ Some (start_in held)) × IsPrefix (start_in held) log
began_at held log b = (some_start held b.0, (drop (length (start_in held)) log, ap (λ l. l ++ drop (length (start_in held)) log) (sym b.1) ∙ take-append-drop (length (start_in held)) log)) where
  some_start : (h : Option (List Turn)) → is_some h ≡ true → h ≡ Some (start_in h)
  some_start None e = absurd (true≢false (sym e))
  some_start (Some l) e = refl

pub began_more : (held : Option (List Turn)) (log more : List Turn) → Began held log → Began held (log ++ more)
began_more held log more b = let n : ℕ = length (start_in held) in let e = ap length b.1 in let l = length-take n log in let le : n ≤ length log = omega arith in
    (b.0, take-append-le n log more le ∙ b.1)

pub began_here : (log : List Turn) → Began (Some log) log
began_here log = (refl, take_all (length log) log (omega arith))

-- a history that has grown begins as it did
pub began_grown : (held : Option (List Turn)) (old new : List Turn) → Began held old → HasGrown old new → Began held new
began_grown held old new b is = ⊎_elim (λ (same : new ≡ old). subst (Began held) (sym same) b)
    (λ (more : (t : Turn) × (new ≡ old ++ t ∷ [])). subst (Began held) (sym more.1) (began_more held old (more.0 ∷ []) b)) is

-- a history that is given to begins as it did
pub began_given : (held : Option (List Turn)) (g : Given) (process : ℕ) (old new : List Turn) → Began held old → IsGiven g process old new → Began held new
began_given held Played process old new b is = began_grown held old new b
    (⊎_elim (λ (same : new ≡ old). inl same) (λ (more : (steps : ℕ) × (new ≡ old ++ entry process steps ∷ [])). inr (entry process more.0, more.1)) is)
began_given held Stranger process old new b is = subst (Began held) (sym is) b
began_given held Over process old new b is = subst (Began held) (sym is) b

pub began_after : {D : Type 0} (held : Option (List Turn)) (r : Result Given D) (process : ℕ) (old new : List Turn) → Began held old
    → IfOk r (λ g. IsGiven g process old new) → OnErr r (new ≡ old) → Began held new
began_after held (Ok g) process old new b given unchanged = began_given held g process old new b given
began_after held (Err e) process old new b given unchanged = subst (Began held) (sym unchanged) b

-- whatever a table answers where it may make a piece by itself, its history has grown by one entry at most
grown_after : {A D : Type 0} (r : Result A D) (old new : List Turn) → IfOk r (λ _. HasGrown old new) → OnErr r (new ≡ old) → HasGrown old new
grown_after (Ok a) old new grown unchanged = grown
grown_after (Err e) old new grown unchanged = inl unchanged

pub began_light : {A D : Type 0} (held : Option (List Turn)) (r : Result A D) (old new : List Turn) → Began held old
    → IfOk r (λ _. HasGrown old new) → OnErr r (new ≡ old) → Began held new
began_light held r old new b grown unchanged = began_grown held old new b (grown_after r old new grown unchanged)

-- an entry that comes to the history is the last that was made
made_more : (held : Option (List Turn)) (old : List Turn) (t : Turn) → Began held old
    → added_since (start_in held) (old ++ t ∷ []) ≡ added_since (start_in held) old ++ (length old, t) ∷ []
made_more held old t b =
    let start : List Turn = start_in held in
    let n : ℕ = length start in
    let e = ap length b.1 in let l = length-take n old in let d = length-drop n old in
    let le : n ≤ length old = omega arith in
    let place : n + length (drop n old) ≡ length old = omega arith in
    ap (enumerate_from n) (drop-append-le n old (t ∷ []) le)
    ∙ (enumerate_more n (drop n old) t ∙ ap (λ k. enumerate_from n (drop n old) ++ (k, t) ∷ []) place)

made_grown : (held : Option (List Turn)) (old new : List Turn) → Began held old → HasGrown old new
    → HasMade old (added_since (start_in held) old) (added_since (start_in held) new)
made_grown held old new b is = ⊎_elim (λ (same : new ≡ old). inl (ap (added_since (start_in held)) same))
    (λ (more : (t : Turn) × (new ≡ old ++ t ∷ [])). inr (more.0, ap (added_since (start_in held)) more.1 ∙ made_more held old more.0 b)) is

pub made_light : {A D : Type 0} (held : Option (List Turn)) (r : Result A D) (old new : List Turn) → Began held old
    → IfOk r (λ _. HasGrown old new) → OnErr r (new ≡ old) → HasMade old (added_since (start_in held) old) (added_since (start_in held) new)
made_light held r old new b grown unchanged = made_grown held old new b (grown_after r old new grown unchanged)

module _ {T : Type 0} (history_of : T → List Turn) where
  pub begins : (t : T) (n : ℕ) → n ≡ 2 * length (history_of t) → (SeatRule history_of) record { words = n ∷ []; homes = some (Some t) ∷ []; views = newcomer (history_of t) ∷ [] }
  begins t n is = inl (record { table = t; words = ap (λ k. k ∷ []) is; homes = refl; fits = λ id v at. only id v at }) where
    start : SeatView
    start = newcomer (history_of t)

    only : (id : ℕ) (v : SeatView) → get_elem? (start ∷ []) id ≡ some v → Fits (history_of t) v × (v.held ≡ None)
    only zero v at = subst (λ (u : SeatView). Fits (history_of t) u × (u.held ≡ None)) (some-injective start v at) (fits_newcomer (history_of t) (history_of t) (prefix_self (history_of t)), refl)
    only (suc id) v at = absurd (some-ne-none v (sym at))

  -- a step that finds the word odd, or wins the turn
  pub tries : (slots id : ℕ) (st : Step (Option T)) (v : SeatView) → Allows (SeatRule history_of) slots id (v, []) 0 (λ n. bit_or n 1) (Tries history_of st (v, []))
  tries slots id st v s kept long at small = ⊎_elim free taken kept where
    Goal : List ℕ → List (Maybe (Option T)) → Type 0
    Goal ws hs = (w : SeatView) × (a : Act (Option T)) × Valid {S = Option T} hs [] a × (SeatRule history_of) record { words = set ws 0 (bit_or (slice_index ws 0) 1); homes = homes_after hs [] a; views = set s.views id w } × Tries history_of st (v, []) (slice_index ws 0) (w, carried_after [] a)

    seat_in : (j : ℕ) (w : SeatView) → id < length (set s.views id w)
    seat_in j w = subst (λ n. id < n) (sym (length-set s.views id w)) (here_at s.views id v at)

    free : IsFree history_of s → Goal s.words s.homes
    free f = let log : List Turn = history_of f.table in let n : ℕ = 2 * length log in let w : SeatView = holding v n log in
        let fits = (f.fits id v at).0 in
        let less : 2 * length log < 2 ^ 64 = subst (λ (ws : List ℕ). slice_index ws 0 < 18446744073709551616) f.words small in
        let mine : Fits log w = record { seen = fits.seen; told = fits.told; mine = fits.mine; once = fits.once } in
        let F : ℕ → SeatView → Type 0 = λ j u. Fits log u × (HoldsAt log id j u) in
        let all : Each F (set s.views id w) = each_set F s.views id w (mine, inl (refl, refl)) (λ j u other is. ((f.fits j u is).0, inr (other, (f.fits j u is).1))) in
        let out : Goal (2 * length log ∷ []) (some (Some f.table) ∷ []) = (w, takes 0 (Some f.table), refl, inr (record { log = log; seat = id; seated = seat_in id w; words = ap (λ k. k ∷ []) (or_even (length log) less); homes = refl; fits = all }), inr (f.table, refl, fits.seen, refl)) in
        subst₂ Goal (sym f.words) (sym f.homes) out

    taken : IsTaken s → Goal s.words s.homes
    taken k = let n : ℕ = 2 * length k.log + 1 in let w : SeatView = tried v n in
        let had = k.fits id v at in
        let odd : n % 2 ≡ 1 = omega arith in
        let mine : Fits k.log w = record { seen = had.0.seen; told = had.0.told; mine = had.0.mine; once = had.0.once } in
        let F : ℕ → SeatView → Type 0 = λ j u. Fits k.log u × (HoldsAt k.log k.seat j u) in
        let all : Each F (set s.views id w) = each_set F s.views id w (mine, had.1) (λ j u other is. k.fits j u is) in
        let out : Goal (n ∷ []) (none ∷ []) = (w, keeps, tt, inr (record { log = k.log; seat = k.seat; seated = subst (λ n. k.seat < n) (sym (length-set s.views id w)) k.seated; words = ap (λ (m : ℕ). m ∷ []) (or_odd n odd); homes = refl; fits = all }), inl (odd, refl)) in
        subst₂ Goal (sym k.words) (sym k.homes) out

  -- a step that gives the turn back, with the table
  pub frees : (slots id : ℕ) (st : Step (Option T)) (v : SeatView) (t : T) (log : List Turn) → v.held ≡ Some log → IsPrefix log (history_of t) → (new : ℕ) → new ≡ 2 * length (history_of t)
      → Allows (SeatRule history_of) slots id (v, (0, Some t) ∷ []) 0 (λ _. new) (λ _. Frees history_of st (v, (0, Some t) ∷ []) new)
  frees slots id st v t log held began new is s kept long at small = ⊎_elim free taken kept where
    Goal : List ℕ → List (Maybe (Option T)) → Type 0
    Goal ws hs = (w : SeatView) × (a : Act (Option T)) × Valid {S = Option T} hs ((0, Some t) ∷ []) a × (SeatRule history_of) record { words = set ws 0 new; homes = homes_after hs ((0, Some t) ∷ []) a; views = set s.views id w } × Frees history_of st (v, (0, Some t) ∷ []) new (w, carried_after ((0, Some t) ∷ []) a)

    free : IsFree history_of s → Goal s.words s.homes
    free f = absurd (cc (held, (f.fits id v at).1))

    taken : IsTaken s → Goal s.words s.homes
    taken k = ⊎_elim own (λ x. absurd (cc (held, x.1))) (k.fits id v at).1 where
      own : (id ≡ k.seat) × (v.held ≡ Some k.log) → Goal s.words s.homes
      own x = let hist : List Turn = history_of t in let w : SeatView = freed v hist in
          let same : log ≡ k.log = some_injective log k.log (sym held ∙ x.1) in
          let began' : IsPrefix k.log hist = subst (λ (l : List Turn). IsPrefix l hist) same began in
          let F : ℕ → SeatView → Type 0 = λ j u. Fits hist u × (u.held ≡ None) in
          let mine : Fits hist w = freed_fits k.log hist v x.1 began' (k.fits id v at).0 in
          let all : Each F (set s.views id w) = each_set F s.views id w (mine, refl)
          (λ j u other at'. (grown k.log hist u began' (k.fits j u at').0, ⊎_elim (λ (y : (j ≡ k.seat) × (u.held ≡ Some k.log)). absurd (other (y.0 ∙ sym x.0))) (λ (y : (j ≢ k.seat) × (u.held ≡ None)). y.1) (k.fits j u at').1)) in
          let told : Frees history_of st (v, (0, Some t) ∷ []) new (w, []) = λ u e. ap (λ (c : List (ℕ × Option T)). (freed v (history_of (table_in t c)), [])) e in
          let out : Goal ((2 * length k.log + 1) ∷ []) (none ∷ []) = (w, gives, tt, inl (record { table = t; words = ap (λ (m : ℕ). m ∷ []) is; homes = refl; fits = all }), told) in
          subst₂ Goal (sym k.words) (sym k.homes) out where
            table_in : T → List (ℕ × Option T) → T
            table_in d [] = d
            table_in d ((j, None) ∷ cs) = d
            table_in d ((j, Some u) ∷ cs) = u

  -- the rule stays where one view changes that says the same of the turn
  set_kept : (s : State (Option T) SeatView) (id : ℕ) (v w : SeatView) → get_elem? s.views id ≡ some v → w.held ≡ v.held
      → ((log : List Turn) → Each (λ _ u. Fits log u) s.views → Fits log w) → (SeatRule history_of) s → (SeatRule history_of) record { words = s.words; homes = s.homes; views = set s.views id w }
  set_kept s id v w at held go kept = ⊎_elim free taken kept where
    free : IsFree history_of s → (SeatRule history_of) record { words = s.words; homes = s.homes; views = set s.views id w }
    free f = let log : List Turn = history_of f.table in
        let F : ℕ → SeatView → Type 0 = λ j u. Fits log u × (u.held ≡ None) in
        inl (record { table = f.table; words = f.words; homes = f.homes; fits = each_set F s.views id w (go log (λ j u is. (f.fits j u is).0), held ∙ (f.fits id v at).1) (λ j u _ is. f.fits j u is) })

    taken : IsTaken s → (SeatRule history_of) record { words = s.words; homes = s.homes; views = set s.views id w }
    taken k = let F : ℕ → SeatView → Type 0 = λ j u. Fits k.log u × (HoldsAt k.log k.seat j u) in
        let mine : F id w = (go k.log (λ j u is. (k.fits j u is).0), ⊎_elim (λ x. inl (x.0, held ∙ x.1)) (λ x. inr (x.0, held ∙ x.1)) (k.fits id v at).1) in
        inr (record { log = k.log; seat = k.seat; seated = subst (λ n. k.seat < n) (sym (length-set s.views id w)) k.seated; words = k.words; homes = k.homes; fits = each_set F s.views id w mine (λ j u _ is. k.fits j u is) })

  -- the rule stays where a view comes that doesn't have the turn
  more_kept : (s : State (Option T) SeatView) (r : SeatView) → r.held ≡ None → ((log : List Turn) → Each (λ _ u. Fits log u) s.views → Fits log r) → (SeatRule history_of) s → (SeatRule history_of) record { words = s.words; homes = s.homes; views = s.views ++ r ∷ [] }
  more_kept s r held go kept = ⊎_elim free taken kept where
    free : IsFree history_of s → (SeatRule history_of) record { words = s.words; homes = s.homes; views = s.views ++ r ∷ [] }
    free f = let log : List Turn = history_of f.table in
        let new = go log (λ j u is. (f.fits j u is).0) in
        inl (record { table = f.table; words = f.words; homes = f.homes; fits = λ j u e. ⊎_elim (λ x. f.fits j u x) (λ (x : (j ≡ length s.views) × (r ≡ u)). subst (λ (y : SeatView). Fits log y × (y.held ≡ None)) x.1 (new, held)) (at_end s.views r u j e) })

    taken : IsTaken s → (SeatRule history_of) record { words = s.words; homes = s.homes; views = s.views ++ r ∷ [] }
    taken k = let new = go k.log (λ j u is. (k.fits j u is).0) in
        let long = length-append s.views (r ∷ []) in let seated = k.seated in
        inr (record {
          log = k.log;
          seat = k.seat;
          seated = omega arith;
          words = k.words;
          homes = k.homes;
          fits = λ j u e. ⊎_elim (λ x. k.fits j u x)
              (λ (x : (j ≡ length s.views) × (r ≡ u)). subst (λ (y : SeatView). Fits k.log y × (HoldsAt k.log k.seat j y)) x.1 (new, inr ((λ is. let a = x.0 in let b = k.seated in absurd (omega arith)), held)))
              (at_end s.views r u j e);
        })

  pub splits : (id : ℕ) (v : SeatView) → Splits (SeatRule history_of) id v v (newcomer v.seen)
  splits id v s kept at =
      let same : State (Option T) SeatView = record { words = s.words; homes = s.homes; views = set s.views id v } in
      more_kept same (newcomer v.seen) refl (λ log all. let f = all id v (set_here s.views id v (here_at s.views id v at)) in fits_newcomer log v.seen f.seen)
      (set_kept s id v v at refl (λ log all. all id v at) kept)

  pub joins : (id : ℕ) (v : SeatView) (other : ℕ) (u : SeatView) → v.held ≡ None → u.held ≡ None → Joins (SeatRule history_of) id v other u (joined v u) (newcomer [])
  joins id v other u waits waits' s kept at apart there =
      let both : SeatView = joined v u in
      let was : get_elem? s.views other ≡ some u = ⊎_elim (λ x. absurd (apart x.0)) (λ x. x.1) (at_set s.views id other both u there) in
      let one : State (Option T) SeatView = record { words = s.words; homes = s.homes; views = set s.views id both } in
      set_kept one other u (newcomer []) there (sym waits') (λ log _. fits_newcomer log [] (log, refl))
      (set_kept s id v both at refl (λ log all. joined_fits log v u (all id v at) (all other u was)) kept)

  pub compares : (slots id : ℕ) (st : Step (Option T)) (v : SeatView) → Allows (SeatRule history_of) slots id (v, []) 0 (λ n. n) (Compares st (v, []))
  compares slots id st v s kept long at small =
      let w : SeatView = untold v in
      let after : (SeatRule history_of) record { words = s.words; homes = s.homes; views = set s.views id w } =
      set_kept s id v w at refl (λ log all. let f = all id v at in record { seen = f.seen; told = (log, refl); mine = f.mine; once = f.once }) kept in
      let words : set s.words 0 (slice_index s.words 0) ≡ s.words = same s.words in (
        w,
        keeps,
        tt,
        subst (λ (ws : List ℕ). (SeatRule history_of) record { words = ws; homes = s.homes; views = set s.views id w }) (sym words) after,
        (refl, λ le. ⊎_elim (λ (f : IsFree history_of s). prefix_shorter v.told v.seen (history_of f.table) (f.fits id v at).0.told (f.fits id v at).0.seen le) (λ (k : IsTaken s). prefix_shorter v.told v.seen k.log (k.fits id v at).0.told (k.fits id v at).0.seen le) kept),
      ) where
        same : (ws : List ℕ) → set ws 0 (slice_index ws 0) ≡ ws
        same [] = refl
        same (x ∷ xs) = refl

  -- ---- the steps at what a seat carries. No play reads the step
  abbrev st : Step (Option T)
  st = step 0 0 0 0 none

  pub tries_at : (slots id : ℕ) (me : Seated T) → me.1 ≡ [] → Allows (SeatRule history_of) slots id me 0 (λ n. bit_or n 1) (Tries history_of st me)
  tries_at slots id me bare = subst (λ (c : List (ℕ × Option T)). Allows (SeatRule history_of) slots id (me.0, c) 0 (λ n. bit_or n 1) (Tries history_of st (me.0, c))) (sym bare) (tries slots id st me.0)

  pub compares_at : (slots id : ℕ) (me : Seated T) → me.1 ≡ [] → Allows (SeatRule history_of) slots id me 0 (λ n. n) (Compares st me)
  compares_at slots id me bare = subst (λ (c : List (ℕ × Option T)). Allows (SeatRule history_of) slots id (me.0, c) 0 (λ n. n) (Compares st (me.0, c))) (sym bare) (compares slots id st me.0)

  pub frees_at : (slots id : ℕ) (me : Seated T) (v : SeatView) (t : T) (new : ℕ) → me ≡ (v, (0, Some t) ∷ []) → Began v.held (history_of t) → new ≡ 2 * length (history_of t)
      → Allows (SeatRule history_of) slots id me 0 (λ _. new) (λ _. Frees history_of st me new)
  frees_at slots id me v t new is began word = let b = began_at v.held (history_of t) began in
      subst (λ (m : Seated T). Allows (SeatRule history_of) slots id m 0 (λ _. new) (λ _. Frees history_of st m new)) (sym is) (frees slots id st v t (start_in v.held) b.0 b.1 new word)

  -- where the word was even, the seat has the slot
  pub tried_even : (m : Seated T) (n : ℕ) (w : Seated T) → Tries history_of st m n w → (n % 2 ≡ 1 → ⊥) → (x : Option T) × (w.1 ≡ (0, x) ∷ rest w.1)
  tried_even m n w t even = ⊎_elim (λ x. absurd (even x.0)) (λ (x : (t : T) × (n ≡ 2 * length (history_of t)) × IsPrefix m.0.seen (history_of t) × (w ≡ (holding m.0 n (history_of t), (0, Some t) ∷ m.1))).
      let e : w.1 ≡ (0, Some x.0) ∷ m.1 = ap (λ (u : Seated T). u.1) x.3 in (Some x.0, e ∙ ap (λ (r : List (ℕ × Option T)). (0, Some x.0) ∷ r) (sym (ap rest e)))) t

  pub opens : (t u : T) (count : ℕ) (xs : List (Option T)) → count ≡ length (history_of t) → xs ≡ Some t ∷ [] → u ≡ t → (SeatRule history_of) (opening (2 * count ∷ []) xs (newcomer (history_of u)))
  opens t u count xs is one same =
      subst (λ (ys : List (Option T)). (SeatRule history_of) (opening (2 * count ∷ []) ys (newcomer (history_of u)))) (sym one)
      (subst (λ (y : T). (SeatRule history_of) (opening (2 * count ∷ []) (Some t ∷ []) (newcomer (history_of y)))) (sym same) (begins t (2 * count) (ap (λ (n : ℕ). 2 * n) is)))

  -- at the end: where the word is even, the table is there, and its history begins with what the seat has seen
  pub closes : (id : ℕ) (v : SeatView) (ws : List ℕ) (xs : List (Option T)) (word : ℕ) (slot : Option T) → Final (Seen (SeatRule history_of) id v) ws xs → get_elem? ws 0 ≡ some word → get_elem? xs 0 ≡ some slot → (word % 2 ≡ 1 → ⊥)
      → (slot ≡ None → ⊥) × ((t : T) → slot ≡ Some t → IsPrefix v.seen (history_of t))
  closes id v ws xs word slot f at there even = ⊎_elim free taken f.1.0 where
    s : State (Option T) SeatView
    s = f.0

    free : IsFree history_of s → (slot ≡ None → ⊥) × ((t : T) → slot ≡ Some t → IsPrefix v.seen (history_of t))
    free k = let home : get_elem? xs 0 ≡ some (Some k.table) = f.4 0 (Some k.table) (ap (λ (hs : List (Maybe (Option T))). get_elem? hs 0) k.homes) in
        let is : slot ≡ Some k.table = some-injective slot (Some k.table) (sym there ∙ home) in
        ((λ no. cc (no, is)), λ t e. let same : k.table ≡ t = cc (e, is) in subst (λ (y : T). IsPrefix v.seen (history_of y)) same (k.fits id v f.1.1).0.seen)

    taken : IsTaken s → (slot ≡ None → ⊥) × ((t : T) → slot ≡ Some t → IsPrefix v.seen (history_of t))
    taken k = let found : some word ≡ some (2 * length k.log + 1) = sym at ∙ ap (λ (l : List ℕ). get_elem? l 0) (sym f.2 ∙ k.words) in
        let is : word ≡ 2 * length k.log + 1 = some-injective word (2 * length k.log + 1) found in
        absurd (even (omega arith))

  -- where the word is odd, a seat has the turn
  pub closes_odd : (id : ℕ) (v : SeatView) (ws : List ℕ) (xs : List (Option T)) (word : ℕ) → Final (Seen (SeatRule history_of) id v) ws xs → get_elem? ws 0 ≡ some word → word % 2 ≡ 1
      → (log : List Turn) × IsPrefix v.seen log × (word ≡ 2 * length log + 1)
  closes_odd id v ws xs word f at odd = ⊎_elim free taken f.1.0 where
    s : State (Option T) SeatView
    s = f.0

    free : IsFree history_of s → (log : List Turn) × IsPrefix v.seen log × (word ≡ 2 * length log + 1)
    free k = let found : some word ≡ some (2 * length (history_of k.table)) = sym at ∙ ap (λ (l : List ℕ). get_elem? l 0) (sym f.2 ∙ k.words) in
        let is : word ≡ 2 * length (history_of k.table) = some-injective word (2 * length (history_of k.table)) found in
        absurd (omega arith)

    taken : IsTaken s → (log : List Turn) × IsPrefix v.seen log × (word ≡ 2 * length log + 1)
    taken k = let found : some word ≡ some (2 * length k.log + 1) = sym at ∙ ap (λ (l : List ℕ). get_elem? l 0) (sym f.2 ∙ k.words) in
        (k.log, (k.fits id v f.1.1).0.seen, some-injective word (2 * length k.log + 1) found)
