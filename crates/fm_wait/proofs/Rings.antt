-- The rings of paths, by components of the graph and by paths in order.
use Rattle.std.proofs.Common.{◌≡◌, ◌⊎◌, inl, inr, ⊎_elim, ℕ, suc, ◌+◌, ◌<◌, ◌≤◌, ◌==◌, Bool, true, false, cond, not, ◌||◌, T, List, [], ◌∷◌, ◌++◌, length, drop, get_or, map, take, refl, sym, ap, subst, ◌∙◌, arith}
use Rattle.std.specs.Prelude.{Option, Some, None, option_map, option_and_then, slice_get}
use Rattle.std.specs.List.{cons_option, filter_map, list_all, list_any}
use Rattle.std.specs.Option.{IsSome, is_some, unwrap_or}
use Rattle.std.specs.Ordering.{eq_by_cmp, is_lt, nat_cmp}
use Rattle.std.specs.FinMap as finite
use Rattle.std.proofs.lemmas.Bool.Decides.{nat_tests}
use Rattle.std.proofs.lemmas.List.{append_assoc, append-nil, drop_more, get_or-map, get_or_default, map-append, take-append-drop, take_all, take_more}
use Rattle.std.proofs.lemmas.List.Elements.{filter_map-append}
use Rattle.std.proofs.lemmas.Option.{get_or_from_slice_get, slice_get-get_or}
use Rattle.std.specs.FinMap.Entries.{is_sorted}
use Rattle.std.specs.declared.cmp.Ordering.TheVariants.{Less}
use Rattle.fm_base.proofs.PathLaws.{path_total}
use Rattle.fm_base.specs.PathOrder.{path_cmp}
use Rattle.fm_graph.specs.Graph.{IsComponents}
use Rattle.fm_finmap.proofs.Keys.{nat_order, tie, tie_self}
use Rattle.fm_wait.specs.Cycles.{cycle_from, cycles_of, from_least, others_on_ring, way}
use Rattle.fm_wait.specs.Places.{IsFirst, is_name, is_on_ring, leads_back, next_places, path_at, place_behind, place_of, places_from, unless_is}
use Rattle.fm_wait.specs.Waits.{Pairs, next_path}
use Rattle.fm_mean.specs.declared.outcome.Outcome.{Outcome}
use Rattle.fm_mean.specs.declared.outcome.Wait.{Wait}
use Rattle.fm_wait.proofs.Firsts.{get_has, has_get, is_first, keys_are, sorted_before, sorted_behind, stands, waiting}
use Rattle.fm_wait.proofs.Listed.{all_less, from_listed, less_all, not_before_itself}
use Rattle.fm_wait.proofs.Members.{Has}
use Rattle.fm_wait.proofs.Standing.{Place, graph, leads, length_graph, length_next, next_so, reaches, ring_found, ring_is, ring_waits, same_path, steps_wait}
use Rattle.fm_wait.proofs.Ways.{IsWay, Leads, leads_on, leads_to, ring_closed, steps_way, way_avoids, way_found, way_is, way_leads}

-- ---- along a ring, place after place

abbrev pub rest_of : Outcome → Pairs → Option ℕ → List Pairs
rest_of o p None = []
rest_of o p (Some i) = unwrap_or (way (next_path o) (length o.waits) (path_at o i) p) []

pub record IsHere (o : Outcome) (p : Pairs) (i : ℕ) : Type 0 where
  pub first : IsFirst o i
  pub found : way (next_path o) (length o.waits) (path_at o i) p ≡ Some (rest_of o p (Some i))
  pub apart : path_at o i ≡ p → ⊥

abbrev pub Here : Outcome → Pairs → Option ℕ → Type 0
Here o p None = Unit {0}
Here o p (Some i) = IsHere o p i

-- the paths so far, and those that are to come
pub record IsPart (o : Outcome) (p : Pairs) (ring : List Pairs) (at : Option ℕ) : Type 0 where
  pub whole : option_map (λ ps. p ∷ ps) (others_on_ring o p) ≡ Some (ring ++ rest_of o p at)
  pub here : Here o p at

-- what comes behind a place
abbrev pub Comes : Outcome → Pairs → List Pairs → Option ℕ → Type 0
Comes o p zs v = (rest_of o p v ≡ zs) × Here o p v

not_start : (start j : ℕ) → (j ≡ start → ⊥) → (j == start) ≡ false
not_start start j n = grind (arith, nat_tests, n)

is_start : (start j : ℕ) → j ≡ start → (j == start) ≡ true
is_start start j e = grind (arith, nat_tests)

comes_on : (o : Outcome) (p z w : Pairs) (ws : List Pairs) (start j : ℕ) → Place o p start → Place o z j → IsWay (next_path o) p z (w ∷ ws) → suc (length ws) < length o.waits
    → Comes o p (w ∷ ws) (unless_is start (Some j))
comes_on o p z w ws start j s q h l =
    let at : path_at o j ≡ z = (stands o z j q).path in
    let other : j ≡ start → ⊥ = λ e. h.1 (same_path o z p start (q ∙ ap Some e) s) in
    let found : way (next_path o) (length o.waits) (path_at o j) p ≡ Some (w ∷ ws) =
    ap (λ y. way (next_path o) (length o.waits) y p) at ∙ way_found (next_path o) p (length o.waits) z (w ∷ ws) h l in
    let rest : rest_of o p (Some j) ≡ w ∷ ws = ap (λ v. unwrap_or v []) found in
    let here : IsHere o p j = record {
      first = is_first o z j q;
      found = found ∙ ap Some (sym rest);
      apart = λ e. h.1 (sym at ∙ e);
    } in
    subst (λ (v : Option ℕ). Comes o p (w ∷ ws) v) (ap (λ (b : Bool). cond b None (Some j)) (sym (not_start start j other))) (rest, here)

comes : (o : Outcome) (p z : Pairs) (zs : List Pairs) (start : ℕ) → Place o p start → IsWay (next_path o) p z zs → length zs < length o.waits
    → Comes o p zs (unless_is start (finite.get (places_from o.waits 0) z))
comes o p z [] start s h l =
    subst (λ (v : Option ℕ). Comes o p [] v)
    (sym (ap (unless_is start) (ap (finite.get (places_from o.waits 0)) h ∙ s) ∙ ap (λ (b : Bool). cond b None (Some start)) (is_start start start refl)))
    (refl, tt)
comes o p z (w ∷ ws) start s h l =
    let j = waiting o z h.2.0 h.2.1 in
    subst (λ (v : Option ℕ). Comes o p (w ∷ ws) (unless_is start v)) (sym j.1) (comes_on o p z w ws start j.0 s j.1 h l)

-- behind a path that leads to one on the way
behind : (o : Outcome) (p y z : Pairs) (zs : List Pairs) (start i : ℕ) → Place o p start → Place o y i → next_path o y ≡ Some z → IsWay (next_path o) p z zs → length zs < length o.waits
    → Comes o p zs (place_behind (next_places o) start i)
behind o p y z zs start i s q e h l =
    subst (λ (v : Option ℕ). Comes o p zs (unless_is start v)) (sym ((stands o y i q).next ∙ ap (place_of (places_from o.waits 0)) e)) (comes o p z zs start s h l)

some_is : {X : Type 0} (v : Option X) → IsSome v → (x : X) × (v ≡ Some x)
some_is None h = cc
some_is (Some x) h = (x, refl)

pub part_begins : (o : Outcome) (start : ℕ) → IsFirst o start → IsSome (others_on_ring o (path_at o start)) → IsPart o (path_at o start) (path_at o start ∷ []) (place_behind (next_places o) start start)
part_begins o start first some =
    let p = path_at o start in
    let ps = some_is (others_on_ring o p) some in
    let r = ring_is o p ps.0 ps.1 in
    let c = behind o p p r.next ps.0 start start first.placed first.placed r.is_next r.is_way r.short in
    record {
      whole = ap (option_map (λ (l : List Pairs). p ∷ l)) ps.1 ∙ ap (λ (l : List Pairs). Some (p ∷ l)) (sym c.0);
      here = c.1;
    }

-- one path further
pub record IsFurther (o : Outcome) (p : Pairs) (ring : List Pairs) (i : ℕ) (v : Option ℕ) : Type 0 where
  pub part : IsPart o p (ring ++ path_at o i ∷ []) v
  pub less : length (rest_of o p v) < length (rest_of o p (Some i))

further_so : (o : Outcome) (start i : ℕ) (ring rest : List Pairs) → IsFirst o start → IsFirst o i → rest ≡ rest_of o (path_at o start) (Some i)
    → IsWay (next_path o) (path_at o start) (path_at o i) rest → length rest < length o.waits → (path_at o i ≡ path_at o start → ⊥)
    → option_map (λ ps. path_at o start ∷ ps) (others_on_ring o (path_at o start)) ≡ Some (ring ++ rest)
    → IsFurther o (path_at o start) ring i (place_behind (next_places o) start i)
further_so o start i ring [] first here is h l apart whole = absurd (apart h)
further_so o start i ring (y ∷ ys) first here is h l apart whole =
    let p = path_at o start in
    let c = behind o p (path_at o i) h.2.0 ys start i first.placed here.placed h.2.1 h.2.2 (omega arith) in
    let joined : ring ++ y ∷ ys ≡ ring ++ path_at o i ∷ [] ++ rest_of o p (place_behind (next_places o) start i) =
    ap (λ (x : Pairs). ring ++ x ∷ ys) h.0 ∙ sym (append_assoc ring (path_at o i ∷ []) ys) ∙ ap (λ (l : List Pairs). ring ++ path_at o i ∷ [] ++ l) (sym c.0) in
    record {
      part = record { whole = whole ∙ ap Some joined; here = c.1 };
      less = let a = ap length c.0 in let b = ap length is in omega (arith, a, b);
    }

pub part_further : (o : Outcome) (start i : ℕ) (ring : List Pairs) → IsFirst o start → IsPart o (path_at o start) ring (Some i) → IsFurther o (path_at o start) ring i (place_behind (next_places o) start i)
part_further o start i ring first part =
    let p = path_at o start in
    let w = way_is (next_path o) p (length o.waits) (path_at o i) (rest_of o p (Some i)) part.here.found in
    further_so o start i ring (rest_of o p (Some i)) first part.here.first refl w.0 w.1 part.here.apart part.whole

pub part_whole : (o : Outcome) (p : Pairs) (ring : List Pairs) → IsPart o p ring None → option_map (λ ps. p ∷ ps) (others_on_ring o p) ≡ Some ring
part_whole o p ring part = part.whole ∙ ap Some (append-nil ring)

pub part_first : (o : Outcome) (p : Pairs) (i : ℕ) (ring : List Pairs) → IsPart o p ring (Some i) → IsFirst o i
part_first o p i ring part = part.here.first

-- the path of a wait that is read
pub path_read : (o : Outcome) (i : ℕ) (w : Wait) (ws : List Wait) → ws ≡ o.waits → i < length o.waits → (get_or ws i w).path ≡ path_at o i
path_read o i w ws s l = ap (λ (l : List Wait). (get_or l i w).path) s ∙ sym (get_or-map (λ (x : Wait). x.path) o.waits i w [] l)

-- ---- components

-- the test of a component that was met
abbrev pub is_met : List ℕ → List (Pairs × ℕ) → ℕ → Bool
is_met names done c = list_any (λ e. eq_by_cmp nat_cmp (get_or names e.1 0) c) done

met_so : (names : List ℕ) (d : Pairs × ℕ) (done : List (Pairs × ℕ)) (c : ℕ) → (is_met names done c ≡ true → (e : Pairs × ℕ) × Has done e × (get_or names e.1 0 ≡ c))
    → (b : Bool) → eq_by_cmp nat_cmp (get_or names d.1 0) c ≡ b → (b || is_met names done c) ≡ true → (e : Pairs × ℕ) × Has (d ∷ done) e × (get_or names e.1 0 ≡ c)
met_so names d done c ih true b h = (d, inl refl, tie nat_order (get_or names d.1 0) c b)
met_so names d done c ih false b h = let r = ih h in (r.0, inr r.1, r.2)

met_one : (names : List ℕ) (done : List (Pairs × ℕ)) (c : ℕ) → is_met names done c ≡ true → (e : Pairs × ℕ) × Has done e × (get_or names e.1 0 ≡ c)
met_one names [] c h = cc
met_one names (d ∷ done) c h = met_so names d done c (met_one names done c) (eq_by_cmp nat_cmp (get_or names d.1 0) c) refl h

or_true : (a : Bool) → (a || true) ≡ true
or_true true = refl
or_true false = refl

one_met : (names : List ℕ) (done : List (Pairs × ℕ)) (e : Pairs × ℕ) → Has done e → is_met names done (get_or names e.1 0) ≡ true
one_met names [] e h = absurd h
one_met names (d ∷ done) e (inl s) =
    ap (λ (b : Bool). b || is_met names done (get_or names e.1 0)) (ap (λ (a : Pairs × ℕ). eq_by_cmp nat_cmp (get_or names a.1 0) (get_or names e.1 0)) s ∙ tie_self nat_order (get_or names e.1 0))
one_met names (d ∷ done) e (inr h) =
    ap (λ (b : Bool). eq_by_cmp nat_cmp (get_or names d.1 0) (get_or names e.1 0) || b) (one_met names done e h) ∙ or_true (eq_by_cmp nat_cmp (get_or names d.1 0) (get_or names e.1 0))

cut_more : {X : Type 0} (d : X) (done : List X) (e : X) (rest : List X) (x : X) → Has done x ⊎ ((e ≡ x) ⊎ Has rest x) → Has (d ∷ done) x ⊎ ((e ≡ x) ⊎ Has rest x)
cut_more d done e rest x (inl k) = inl (inr k)
cut_more d done e rest x (inr k) = inr k

-- an element of a list that is cut
cut : {X : Type 0} (done : List X) (e : X) (rest : List X) (x : X) → Has (done ++ e ∷ rest) x → Has done x ⊎ ((e ≡ x) ⊎ Has rest x)
cut [] e rest x h = inr h
cut (d ∷ done) e rest x (inl s) = inl (inl s)
cut (d ∷ done) e rest x (inr h) = cut_more d done e rest x (cut done e rest x h)

has_front : {X : Type 0} (done : List X) (e : X) (rest : List X) (x : X) → Has done x → Has (done ++ e ∷ rest) x
has_front [] e rest x h = absurd h
has_front (d ∷ done) e rest x (inl s) = inl s
has_front (d ∷ done) e rest x (inr h) = inr (has_front done e rest x h)

has_middle : {X : Type 0} (done : List X) (e : X) (rest : List X) → Has (done ++ e ∷ rest) e
has_middle [] e rest = inl refl
has_middle (d ∷ done) e rest = inr (has_middle done e rest)

not_both : (x y : Pairs) → path_cmp x y ≡ Less → path_cmp y x ≡ Less → ⊥
not_both x y a b = not_before_itself x (path_total.trans x y x a b)

refused : (b : Bool) → (b ≡ true → ⊥) → b ≡ false
refused true n = absurd (n refl)
refused false n = refl

module _ (o : Outcome) (names : List ℕ) (comps : IsComponents (graph o) names) where
  within : (x : Pairs) (i : ℕ) → Place o x i → i < length (graph o)
  within x i p = let s = stands o x i p in let l = length_graph o in omega (arith, s.below, l)

  own : (x : Pairs) (i : ℕ) → Place o x i → get_or names i i ≡ get_or names i 0
  own x i p = let w = within x i p in let l = comps.sized in get_or_default names i i 0 (omega (arith, w, l))

  pub one_name : (x y : Pairs) (i j : ℕ) → Place o x i → Place o y j → Leads (next_path o) x y → Leads (next_path o) y x → get_or names i 0 ≡ get_or names j 0
  one_name x y i j p q a b =
      sym (own x i p) ∙ (comps.apart i j (within x i p) (within y j q)).1 (reaches o x y i j p q a, reaches o y x j i q p b) ∙ own y j q

  pub by_name : (x y : Pairs) (i j : ℕ) → Place o x i → Place o y j → get_or names i 0 ≡ get_or names j 0 → Leads (next_path o) x y × Leads (next_path o) y x
  by_name x y i j p q e =
      let r = (comps.apart i j (within x i p) (within y j q)).0 (own x i p ∙ e ∙ sym (own y j q)) in
      (leads o x y i j p q r.0, leads o y x j i q p r.1)

  -- ---- which paths are on a ring

  ring_from_name : (p : Pairs) (k : ℕ) → Place o p k → (j : ℕ) → place_of (places_from o.waits 0) (next_path o p) ≡ Some j → get_or names j 0 ≡ get_or names k 0 → (ps : List Pairs) × (others_on_ring o p ≡ Some ps)
  ring_from_name p k s j e n =
      let z = next_so o j (next_path o p) e in
      let back = by_name z.0 p j k z.2 s n in
      let w = steps_way (next_path o) p back.0.0 z.0 back.0.1 in
      (w.0, ring_found o p z.0 w.0 z.1 w.1)

  name_so : (j k : ℕ) (v : Option ℕ) → slice_get names j ≡ v → is_name (get_or names k 0) v ≡ true → get_or names j 0 ≡ get_or names k 0
  name_so j k None is e = cc
  name_so j k (Some d) is e = get_or_from_slice_get names j d 0 is ∙ grind (arith, nat_tests)

  leads_so : (p : Pairs) (k : ℕ) → Place o p k → (v : Option ℕ) → place_of (places_from o.waits 0) (next_path o p) ≡ v → leads_back names k v ≡ true → (ps : List Pairs) × (others_on_ring o p ≡ Some ps)
  leads_so p k s None is e = cc
  leads_so p k s (Some j) is e = ring_from_name p k s j is (name_so j k (slice_get names j) refl e)

  on_ring_test : (p : Pairs) (k : ℕ) → Place o p k → is_on_ring (next_places o) names k ≡ leads_back names k (place_of (places_from o.waits 0) (next_path o p))
  on_ring_test p k s = ap (leads_back names k) (stands o p k s).next

  pub ring_from_test : (p : Pairs) (k : ℕ) → Place o p k → is_on_ring (next_places o) names k ≡ true → (ps : List Pairs) × (others_on_ring o p ≡ Some ps)
  ring_from_test p k s e = leads_so p k s (place_of (places_from o.waits 0) (next_path o p)) refl (sym (on_ring_test p k s) ∙ e)

  is_same : (a b : ℕ) → a ≡ b → (a == b) ≡ true
  is_same a b e = grind (arith, nat_tests)

  test_from_ring : (p : Pairs) (k : ℕ) → Place o p k → (ps : List Pairs) → others_on_ring o p ≡ Some ps → is_on_ring (next_places o) names k ≡ true
  test_from_ring p k s ps e =
      let r = ring_is o p ps e in
      let back = way_leads (next_path o) p r.next ps r.is_way in
      let j = steps_wait o back.0 r.next p k s back.1 in
      let same = one_name r.next p j.0 k j.1 s back (1, (r.next, r.is_next, refl)) in
      let w = within r.next j.0 j.1 in
      let l = comps.sized in
      on_ring_test p k s ∙ ap (λ v. leads_back names k (place_of (places_from o.waits 0) v)) r.is_next ∙ ap (leads_back names k) j.1
      ∙ ap (is_name (get_or names k 0)) (slice_get-get_or names j.0 0 (omega (arith, w, l))) ∙ is_same (get_or names j.0 0) (get_or names k 0) same

  -- ---- one more of the paths in order

  module _ (done : List (Pairs × ℕ)) (p : Pairs) (k : ℕ) (rest : List (Pairs × ℕ)) (order : finite.entries (places_from o.waits 0) ≡ done ++ (p, k) ∷ rest) where
    sorted : T (is_sorted path_cmp (done ++ (p, k) ∷ rest))
    sorted = subst (λ (es : List (Pairs × ℕ)). T (is_sorted path_cmp es)) order (finite.entries_sorted (places_from o.waits 0))

    listed : (e : Pairs × ℕ) → Has (done ++ (p, k) ∷ rest) e → Place o e.0 e.1
    listed e h = get_has (places_from o.waits 0) e (subst (λ (es : List (Pairs × ℕ)). Has es e) (sym order) h)

    pub here : Place o p k
    here = listed (p, k) (has_middle done (p, k) rest)

    met_not_least : (ps : List Pairs) → others_on_ring o p ≡ Some ps → is_met names done (get_or names k 0) ≡ true → list_all (λ q. is_lt (path_cmp p q)) ps ≡ true → ⊥
    met_not_least ps e m a =
        let d = met_one names done (get_or names k 0) m in
        let less : path_cmp d.0.0 p ≡ Less = sorted_before done (p, k) rest d.0 sorted d.1 in
        let there = listed d.0 (has_front done (p, k) rest d.0 d.1) in
        let to = (by_name p d.0.0 k d.0.1 here there (sym d.2)).0 in
        let r = ring_is o p ps e in
        ⊎_elim (λ (s : p ≡ d.0.0). not_before_itself p (ap (λ (x : Pairs). path_cmp x p) s ∙ less))
        (λ (h : Has ps d.0.0). not_both p d.0.0 (all_less p ps d.0.0 a h) less)
        (ring_closed (next_path o) p r.next ps r.is_next r.is_way to.0 p d.0.0 (inl refl) to.1)

    unmet_less : (ps : List Pairs) → others_on_ring o p ≡ Some ps → is_met names done (get_or names k 0) ≡ false → (q : Pairs) → Has ps q → path_cmp p q ≡ Less
    unmet_less ps e m q h =
        let r = ring_is o p ps e in
        let j = ring_waits o p r.next ps r.is_next r.is_way q (inr h) in
        let to = leads_to (next_path o) p r.next ps q r.is_way h in
        let same = one_name p q k j.0 here j.1 (suc to.0, (r.next, r.is_next, to.1)) (leads_on (next_path o) p r.next ps q r.is_way h) in
        let in_order : Has (done ++ (p, k) ∷ rest) (q, j.0) = subst (λ (es : List (Pairs × ℕ)). Has es (q, j.0)) order (has_get (places_from o.waits 0) q j.0 j.1) in
        ⊎_elim (λ (d : Has done (q, j.0)). absurd (cc (sym m ∙ ap (is_met names done) same ∙ one_met names done (q, j.0) d)))
        (λ (l : ((p, k) ≡ (q, j.0)) ⊎ Has rest (q, j.0)). ⊎_elim
        (λ (s : (p, k) ≡ (q, j.0)). absurd (way_avoids (next_path o) p r.next ps r.is_way (subst (λ (x : Pairs). Has ps x) (sym (ap (λ (a : Pairs × ℕ). a.0) s)) h)))
        (λ (b : Has rest (q, j.0)). sorted_behind done (p, k) rest (q, j.0) sorted b) l)
        (cut done (p, k) rest (q, j.0) in_order)

    none_so : (v : Option (List Pairs)) → others_on_ring o p ≡ v → (is_met names done (get_or names k 0) ≡ true) ⊎ (is_on_ring (next_places o) names k ≡ false) → option_and_then (from_least p) v ≡ None
    none_so None is h = refl
    none_so (Some ps) is (inl m) = ap (λ (b : Bool). cond b (Some (p ∷ ps)) None) (refused (list_all (λ q. is_lt (path_cmp p q)) ps) (met_not_least ps is m))
    none_so (Some ps) is (inr n) = absurd (cc (sym n ∙ test_from_ring p k here ps is))

    -- where its component was met, or it is on no ring, no cycle is listed from it
    pub none_listed : (is_met names done (get_or names k 0) ≡ true) ⊎ (is_on_ring (next_places o) names k ≡ false) → cycle_from o p ≡ None
    none_listed h = none_so (others_on_ring o p) refl h

    -- else its ring is
    pub ring_listed : is_met names done (get_or names k 0) ≡ false → (ps : List Pairs) → others_on_ring o p ≡ Some ps → cycle_from o p ≡ Some (p ∷ ps)
    ring_listed m ps e = from_listed o p ps e (less_all p ps (unmet_less ps e m))

or_false : (a : Bool) → (a || false) ≡ a
or_false true = refl
or_false false = refl

one_more_met : (b x : Bool) → cond b true x ≡ (x || (b || false))
one_more_met true x = sym (or_true x)
one_more_met false x = sym (or_false x)

any_append : (p : Pairs × ℕ → Bool) (xs : List (Pairs × ℕ)) (x : Pairs × ℕ) → list_any p (xs ++ x ∷ []) ≡ (list_any p xs || (p x || false))
any_append p [] x = refl
any_append p (y ∷ xs) x = ap (λ (b : Bool). p y || b) (any_append p xs x) ∙ or_joins (p y) (list_any p xs) (p x || false)
  where
    or_joins : (a b c : Bool) → (a || (b || c)) ≡ ((a || b) || c)
    or_joins true b c = refl
    or_joins false b c = refl

pub first_is_unmet : (b m : Bool) → b ≡ not m → b ≡ true → m ≡ false
first_is_unmet b true e h = cc
first_is_unmet b false e h = refl

pub later_is_met : (b m : Bool) → b ≡ not m → b ≡ false → m ≡ true
later_is_met b true e h = refl
later_is_met b false e h = cc

-- the paths in order, up to one of them
module _ (o : Outcome) (names : List ℕ) (es : List (Pairs × ℕ)) (i : ℕ) (e : Pairs × ℕ) (l : i < length es) (is : e ≡ get_or es i e) where
  one_more : take (i + 1) es ≡ take i es ++ e ∷ []
  one_more = take_more es i e l ∙ ap (λ x. take i es ++ x ∷ []) (sym is)

  pub met_more : (c : ℕ) → cond (eq_by_cmp nat_cmp (get_or names e.1 0) c) true (is_met names (take i es) c) ≡ is_met names (take (i + 1) es) c
  met_more c =
      one_more_met (eq_by_cmp nat_cmp (get_or names e.1 0) c) (is_met names (take i es) c)
      ∙ sym (any_append (λ e. eq_by_cmp nat_cmp (get_or names e.1 0) c) (take i es) e) ∙ sym (ap (λ (l : List (Pairs × ℕ)). is_met names l c) one_more)

  listed_more : filter_map (cycle_from o) (map (λ (e : Pairs × ℕ). e.0) (take (i + 1) es)) ≡ filter_map (cycle_from o) (map (λ (e : Pairs × ℕ). e.0) (take i es)) ++ cons_option (cycle_from o e.0) []
  listed_more =
      ap (λ l. filter_map (cycle_from o) (map (λ (e : Pairs × ℕ). e.0) l)) one_more
      ∙ ap (filter_map (cycle_from o)) (map-append (λ (e : Pairs × ℕ). e.0) (take i es) (e ∷ []))
      ∙ filter_map-append (cycle_from o) (map (λ (e : Pairs × ℕ). e.0) (take i es)) (e.0 ∷ [])

  pub cycle_pushed : (cs : List (List Pairs)) (c : List Pairs) → cs ≡ filter_map (cycle_from o) (map (λ (e : Pairs × ℕ). e.0) (take i es)) → cycle_from o e.0 ≡ Some c
      → cs ++ c ∷ [] ≡ filter_map (cycle_from o) (map (λ (e : Pairs × ℕ). e.0) (take (i + 1) es))
  cycle_pushed cs c so h = ap (λ l. l ++ c ∷ []) so ∙ sym (listed_more ∙ ap (λ v. filter_map (cycle_from o) (map (λ (e : Pairs × ℕ). e.0) (take i es)) ++ cons_option v []) h)

  pub cycles_same : (cs : List (List Pairs)) → cs ≡ filter_map (cycle_from o) (map (λ (e : Pairs × ℕ). e.0) (take i es)) → cycle_from o e.0 ≡ None
      → cs ≡ filter_map (cycle_from o) (map (λ (e : Pairs × ℕ). e.0) (take (i + 1) es))
  cycles_same cs so h =
      so ∙ sym (append-nil (filter_map (cycle_from o) (map (λ (e : Pairs × ℕ). e.0) (take i es))))
      ∙ sym (listed_more ∙ ap (λ v. filter_map (cycle_from o) (map (λ (e : Pairs × ℕ). e.0) (take i es)) ++ cons_option v []) h)

  module _ (comps : IsComponents (graph o) names) (order : es ≡ finite.entries (places_from o.waits 0)) where
    split : finite.entries (places_from o.waits 0) ≡ take i es ++ (e.0, e.1) ∷ drop (i + 1) es
    split = sym order ∙ sym (take-append-drop i es) ∙ ap (λ t. take i es ++ t) (drop_more es i e l ∙ ap (λ x. x ∷ drop (i + 1) es) (sym is))

    at_place : Place o e.0 e.1
    at_place = here o names comps (take i es) e.0 e.1 (drop (i + 1) es) split

    pub at_first : IsFirst o e.1
    at_first = is_first o e.0 e.1 at_place

    pub at_path : path_at o e.1 ≡ e.0
    at_path = (stands o e.0 e.1 at_place).path

    pub at_next : e.1 < length (next_places o)
    at_next = let a = (stands o e.0 e.1 at_place).below in let b = length_next o in omega (arith, a, b)

    pub at_name : e.1 < length names
    at_name = let a = within o names comps e.0 e.1 at_place in let b = comps.sized in omega (arith, a, b)

    at_ring : is_on_ring (next_places o) names e.1 ≡ true → (ps : List Pairs) × (others_on_ring o e.0 ≡ Some ps)
    at_ring h = ring_from_test o names comps e.0 e.1 at_place h

    pub has_ring : is_on_ring (next_places o) names e.1 ≡ true → IsSome (others_on_ring o (path_at o e.1))
    has_ring h = let r = at_ring h in ap (λ p. is_some (others_on_ring o p)) at_path ∙ ap is_some r.1

    pub none_there : (is_met names (take i es) (get_or names e.1 0) ≡ true) ⊎ (is_on_ring (next_places o) names e.1 ≡ false) → cycle_from o e.0 ≡ None
    none_there h = none_listed o names comps (take i es) e.0 e.1 (drop (i + 1) es) split h

    pub ring_there : (ring : List Pairs) → is_met names (take i es) (get_or names e.1 0) ≡ false → is_on_ring (next_places o) names e.1 ≡ true
        → option_map (λ ps. path_at o e.1 ∷ ps) (others_on_ring o (path_at o e.1)) ≡ Some ring → cycle_from o e.0 ≡ Some ring
    ring_there ring m h so =
        let r = at_ring h in
        ring_listed o names comps (take i es) e.0 e.1 (drop (i + 1) es) split m r.0 r.1
        ∙ sym (ap (option_map (λ ps. e.0 ∷ ps)) r.1) ∙ sym (ap (λ p. option_map (λ ps. p ∷ ps) (others_on_ring o p)) at_path) ∙ so

pub all_listed : (o : Outcome) (es : List (Pairs × ℕ)) (i : ℕ) (cs : List (List Pairs)) → es ≡ finite.entries (places_from o.waits 0) → length es ≤ i
    → cs ≡ filter_map (cycle_from o) (map (λ (e : Pairs × ℕ). e.0) (take i es)) → cs ≡ cycles_of o
all_listed o es i cs order l so =
    so ∙ ap (λ t. filter_map (cycle_from o) (map (λ (e : Pairs × ℕ). e.0) t)) (take_all i es l ∙ order) ∙ ap (filter_map (cycle_from o)) (sym (keys_are o.waits))
