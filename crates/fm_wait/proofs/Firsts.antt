-- The first wait of a path, and its place.
use Rattle.std.proofs.Common.{◌≡◌, ℕ, suc, ◌+◌, ◌<◌, Bool, true, false, cond, ◌&&◌, T, List, [], ◌∷◌, ◌++◌, inl, inr, length, get_or, map, refl, sym, ap, subst, ◌∙◌, arith}
use Rattle.std.specs.Prelude.{Option, Some, None, option_map, option_and_then, is_some}
use Rattle.std.specs.List.{list_any}
use Rattle.std.specs.Ordering.{eq_by_cmp, is_eq, is_lt, ordering_reverse}
use Rattle.std.specs.FinMap as finite
use Rattle.std.specs.FinMap.Entries.{below_all, find, is_some-find, is_sorted}
use Rattle.std.specs.declared.cmp.Ordering.{Ordering}
use Rattle.std.specs.declared.cmp.Ordering.TheVariants.{Less, Equal, Greater}
use Rattle.std.proofs.lemmas.List.{get_or-map}
use Rattle.fm_base.proofs.PathLaws.{path_total}
use Rattle.fm_base.specs.PathOrder.{path_cmp}
use Rattle.fm_finmap.specs.Map.{map_values}
use Rattle.fm_finmap.proofs.Keys.{path_order, same, tie, tie_self}
use Rattle.fm_finmap.proofs.Maps.{entries-map_values, get-map_values}
use Rattle.fm_wait.specs.Places.{IsFirst, next_places, path_at, place_of, places_from}
use Rattle.fm_wait.specs.Waits.{Pairs, first_waits, next_path, waits_for}
use Rattle.fm_mean.specs.declared.outcome.Outcome.{Outcome}
use Rattle.fm_mean.specs.declared.outcome.Wait.{Wait}
use Rattle.fm_mean.specs.declared.outcome.At.TheVariants as at
use Rattle.fm_wait.proofs.Members.{Has, same_some}

-- the first wait of a path stands at this place
pub record IsFound (ws : List Wait) (k : ℕ) (q : Pairs) (i : ℕ) (v : Option Wait) : Type 0 where
  pub n : ℕ
  pub is : i ≡ k + n
  pub below : n < length ws
  pub wait : Wait
  pub path : wait.path ≡ q
  pub here : (d : Wait) → get_or ws n d ≡ wait
  pub has : v ≡ Some wait

abbrev pub Agree : List Wait → ℕ → Pairs → Option ℕ → Option Wait → Type 0
Agree ws k q None v = v ≡ None
Agree ws k q (Some i) v = IsFound ws k q i v

agree_more : (w : Wait) (ws : List Wait) (k : ℕ) (q : Pairs) (b : Bool) (i : Option ℕ) (v : Option Wait) → (b ≡ true → q ≡ w.path) → Agree ws (suc k) q i v → Agree (w ∷ ws) k q (cond b (Some k) i) (cond b (Some w) v)
agree_more w ws k q true i v t h = record { n = 0; is = omega arith; below = omega arith; wait = w; path = sym (t refl); here = λ d. refl; has = refl }
agree_more w ws k q false None v t h = h
agree_more w ws k q false (Some i) v t h = record { n = suc h.n; is = omega (arith, h.is); below = omega (arith, h.below); wait = h.wait; path = h.path; here = h.here; has = h.has }

pub agree : (ws : List Wait) (k : ℕ) (q : Pairs) → Agree ws k q (finite.get (places_from ws k) q) (finite.get (first_waits ws) q)
agree [] k q =
    subst (λ (i : Option ℕ). Agree [] k q i (finite.get (first_waits []) q)) (sym (finite.get-empty path_cmp q)) (finite.get-empty path_cmp q)
agree (w ∷ ws) k q =
    subst (λ (i : Option ℕ). Agree (w ∷ ws) k q i (finite.get (first_waits (w ∷ ws)) q)) (sym (finite.get-insert path_total (places_from ws (suc k)) w.path k q))
    (subst (λ (v : Option Wait). Agree (w ∷ ws) k q (cond (eq_by_cmp path_cmp q w.path) (Some k) (finite.get (places_from ws (suc k)) q)) v) (sym (finite.get-insert path_total (first_waits ws) w.path w q))
    (agree_more w ws k q (eq_by_cmp path_cmp q w.path) (finite.get (places_from ws (suc k)) q) (finite.get (first_waits ws) q) (tie path_order q w.path) (agree ws (suc k) q)))

-- what is known of a path that waits, by its place
pub record StandsAt (o : Outcome) (q : Pairs) (i : ℕ) : Type 0 where
  pub below : i < length o.waits
  pub path : path_at o i ≡ q
  pub next : get_or (next_places o) i None ≡ place_of (places_from o.waits 0) (next_path o q)
  pub wait : Wait
  pub waits : finite.get (first_waits o.waits) q ≡ Some wait

stands_found : (o : Outcome) (q : Pairs) (i : ℕ) → IsFound o.waits 0 q i (finite.get (first_waits o.waits) q) → StandsAt o q i
stands_found o q i h =
    let same_place : i ≡ h.n = omega (arith, h.is) in
    let below : i < length o.waits = omega (arith, h.below, same_place) in
    let at : (d : Wait) → get_or o.waits i d ≡ h.wait = λ d. ap (λ k. get_or o.waits k d) same_place ∙ h.here d in
    let step : Wait → Option ℕ = λ w. place_of (places_from o.waits 0) (waits_for o w) in
    record {
      below = below;
      path = get_or-map (λ (w : Wait). w.path) o.waits i h.wait [] below ∙ ap (λ (w : Wait). w.path) (at h.wait) ∙ h.path;
      next = get_or-map step o.waits i h.wait None below ∙ ap step (at h.wait)
          ∙ sym (ap (λ v. place_of (places_from o.waits 0) (option_and_then (waits_for o) v)) h.has);
      wait = h.wait;
      waits = h.has;
    }

pub stands : (o : Outcome) (q : Pairs) (i : ℕ) → finite.get (places_from o.waits 0) q ≡ Some i → StandsAt o q i
stands o q i e = stands_found o q i (subst (λ (v : Option ℕ). Agree o.waits 0 q v (finite.get (first_waits o.waits) q)) e (agree o.waits 0 q))

pub is_first : (o : Outcome) (q : Pairs) (i : ℕ) → finite.get (places_from o.waits 0) q ≡ Some i → IsFirst o i
is_first o q i e =
    let s = stands o q i e in
    record { below = s.below; placed = ap (finite.get (places_from o.waits 0)) s.path ∙ e }

-- a path with a wait has a place
placed_so : (o : Outcome) (q : Pairs) (w : Wait) (v : Option ℕ) → finite.get (places_from o.waits 0) q ≡ v → Agree o.waits 0 q v (finite.get (first_waits o.waits) q)
    → finite.get (first_waits o.waits) q ≡ Some w → (i : ℕ) × (finite.get (places_from o.waits 0) q ≡ Some i)
placed_so o q w None p a e = cc
placed_so o q w (Some i) p a e = (i, p)

pub placed : (o : Outcome) (q : Pairs) (w : Wait) → finite.get (first_waits o.waits) q ≡ Some w → (i : ℕ) × (finite.get (places_from o.waits 0) q ≡ Some i)
placed o q w e = placed_so o q w (finite.get (places_from o.waits 0) q) refl (agree o.waits 0 q) e

has_wait : (o : Outcome) (z : Pairs) (v : Option Wait) → option_and_then (waits_for o) v ≡ Some z → (w : Wait) × (v ≡ Some w)
has_wait o z None e = cc
has_wait o z (Some w) e = (w, refl)

-- a path that waits for one has a place
pub waiting : (o : Outcome) (q z : Pairs) → next_path o q ≡ Some z → (i : ℕ) × (finite.get (places_from o.waits 0) q ≡ Some i)
waiting o q z e = let w = has_wait o z (finite.get (first_waits o.waits) q) e in placed o q w.0 w.1

-- ---- the paths in order

a_wait : Wait
a_wait = record { path = []; line = record { 0 = 0 }; at = at.Join [] }

agree_read : (ws : List Wait) (q : Pairs) (i : Option ℕ) (v : Option Wait) → Agree ws 0 q i v → option_map (λ k. get_or ws k a_wait) i ≡ v
agree_read ws q None v h = sym h
agree_read ws q (Some i) v h =
    let k : i ≡ h.n = omega (arith, h.is) in
    ap Some (ap (λ k. get_or ws k a_wait) k ∙ h.here a_wait) ∙ sym h.has

first_waits_read : (ws : List Wait) → map_values (λ k. get_or ws k a_wait) (places_from ws 0) ≡ first_waits ws
first_waits_read ws = same path_order _ _ (λ q. get-map_values (λ k. get_or ws k a_wait) (places_from ws 0) q ∙ agree_read ws q _ _ (agree ws 0 q))

keys_read : {X Y : Type 0} (f : X → Y) (es : List (Pairs × X)) → map (λ (e : Pairs × Y). e.0) (map (λ (e : Pairs × X). (e.0, f e.1)) es) ≡ map (λ (e : Pairs × X). e.0) es
keys_read f [] = refl
keys_read f (e ∷ es) = ap (λ l. e.0 ∷ l) (keys_read f es)

pub keys_are : (ws : List Wait) → finite.keys (first_waits ws) ≡ finite.keys (places_from ws 0)
keys_are ws =
    ap finite.keys (sym (first_waits_read ws))
    ∙ ap (map (λ (e : Pairs × Wait). e.0)) (entries-map_values (λ k. get_or ws k a_wait) (places_from ws 0))
    ∙ keys_read (λ k. get_or ws k a_wait) (finite.entries (places_from ws 0))

-- ---- lists of entries in order

split_and : (a b : Bool) → T (a && b) → T a × T b
split_and true b h = (tt, h)
split_and false b h = absurd h

less_is : (r : Ordering) → T (is_lt r) → r ≡ Less
less_is Less h = refl
less_is Equal h = absurd h
less_is Greater h = absurd h

less_apart : (x y : Pairs) → path_cmp x y ≡ Less → eq_by_cmp path_cmp y x ≡ false
less_apart x y e = ap is_eq (path_total.antisymm y x ∙ ap ordering_reverse e)

module _ {X : Type 0} where
  pub below_has : (x : Pairs) (es : List (Pairs × X)) (e : Pairs × X) → T (below_all path_cmp x es) → Has es e → path_cmp x e.0 ≡ Less
  below_has x [] e h i = absurd i
  below_has x (d ∷ es) e h (inl s) = ap (λ (a : Pairs × X). path_cmp x a.0) (sym s) ∙ less_is (path_cmp x d.0) (split_and _ _ h).0
  below_has x (d ∷ es) e h (inr i) = below_has x es e (split_and _ _ h).1 i

  pub sorted_head : (d : Pairs × X) (es : List (Pairs × X)) → T (is_sorted path_cmp (d ∷ es)) → T (below_all path_cmp d.0 es)
  sorted_head d es h = (split_and _ _ h).0

  pub sorted_tail : (d : Pairs × X) (es : List (Pairs × X)) → T (is_sorted path_cmp (d ∷ es)) → T (is_sorted path_cmp es)
  sorted_tail d es h = (split_and _ _ h).1

  -- what stands before and behind an entry
  pub sorted_before : (done : List (Pairs × X)) (e : Pairs × X) (rest : List (Pairs × X)) (d : Pairs × X) → T (is_sorted path_cmp (done ++ e ∷ rest)) → Has done d → path_cmp d.0 e.0 ≡ Less
  sorted_before [] e rest d h i = absurd i
  sorted_before (c ∷ done) e rest d h (inl s) =
      ap (λ (a : Pairs × X). path_cmp a.0 e.0) (sym s) ∙ below_has c.0 (done ++ e ∷ rest) e (sorted_head c (done ++ e ∷ rest) h) (has_middle done e rest)
    where
      has_middle : (done : List (Pairs × X)) (e : Pairs × X) (rest : List (Pairs × X)) → Has (done ++ e ∷ rest) e
      has_middle [] e rest = inl refl
      has_middle (c ∷ done) e rest = inr (has_middle done e rest)
  sorted_before (c ∷ done) e rest d h (inr i) = sorted_before done e rest d (sorted_tail c (done ++ e ∷ rest) h) i

  pub sorted_behind : (done : List (Pairs × X)) (e : Pairs × X) (rest : List (Pairs × X)) (d : Pairs × X) → T (is_sorted path_cmp (done ++ e ∷ rest)) → Has rest d → path_cmp e.0 d.0 ≡ Less
  sorted_behind [] e rest d h i = below_has e.0 rest d (sorted_head e rest h) i
  sorted_behind (c ∷ done) e rest d h i = sorted_behind done e rest d (sorted_tail c (done ++ e ∷ rest) h) i

  pub found_has : (es : List (Pairs × X)) (e : Pairs × X) → T (is_sorted path_cmp es) → Has es e → find path_cmp e.0 es ≡ Some e.1
  found_has [] e h i = absurd i
  found_has (d ∷ es) e h (inl s) =
      ap (λ b. cond b (Some d.1) (find path_cmp e.0 es)) (ap (λ (a : Pairs × X). eq_by_cmp path_cmp a.0 d.0) (sym s) ∙ tie_self path_order d.0) ∙ ap (λ (a : Pairs × X). Some a.1) s
  found_has (d ∷ es) e h (inr i) =
      ap (λ b. cond b (Some d.1) (find path_cmp e.0 es)) (less_apart d.0 e.0 (below_has d.0 es e (sorted_head d es h) i)) ∙ found_has es e (sorted_tail d es h) i

  has_found_so : (d : Pairs × X) (es : List (Pairs × X)) (q : Pairs) (x : X) (b : Bool) → eq_by_cmp path_cmp q d.0 ≡ b → (find path_cmp q es ≡ Some x → Has es (q, x)) → cond b (Some d.1) (find path_cmp q es) ≡ Some x → Has (d ∷ es) (q, x)
  has_found_so d es q x true b ih e =
      let a : d.0 ≡ q = sym (tie path_order q d.0 b) in
      let c : d.1 ≡ x = same_some d.1 x e in
      inl (λ i. (a i, c i))
  has_found_so d es q x false b ih e = inr (ih e)

  pub has_found : (es : List (Pairs × X)) (q : Pairs) (x : X) → find path_cmp q es ≡ Some x → Has es (q, x)
  has_found [] q x e = cc
  has_found (d ∷ es) q x e = has_found_so d es q x (eq_by_cmp path_cmp q d.0) refl (has_found es q x) e

  pub get_has : (m : finite.FinMap path_cmp X) (e : Pairs × X) → Has (finite.entries m) e → finite.get m e.0 ≡ Some e.1
  get_has m e i = finite.get-entries m e.0 ∙ found_has (finite.entries m) e (finite.entries_sorted m) i

  pub has_get : (m : finite.FinMap path_cmp X) (q : Pairs) (x : X) → finite.get m q ≡ Some x → Has (finite.entries m) (q, x)
  has_get m q x e = has_found (finite.entries m) q x (sym (finite.get-entries m q) ∙ e)

-- ---- the paths of the waits

paths_listed : (ws : List Wait) → map (λ (e : Pairs × Wait). e.0) (map (λ (w : Wait). (w.path, w)) ws) ≡ map (λ (w : Wait). w.path) ws
paths_listed [] = refl
paths_listed (w ∷ ws) = ap (λ l. w.path ∷ l) (paths_listed ws)

pub waiting_listed : (ws : List Wait) (q : Pairs) (w : Wait) → finite.get (first_waits ws) q ≡ Some w → list_any (eq_by_cmp path_cmp q) (map (λ (w : Wait). w.path) ws) ≡ true
waiting_listed ws q w e =
    let es = map (λ (w : Wait). (w.path, w)) ws in
    ap (list_any (eq_by_cmp path_cmp q)) (sym (paths_listed ws)) ∙ sym (is_some-find path_cmp q es)
    ∙ ap is_some (sym (finite.get-from_entries path_total es q) ∙ e)
