-- Following paths and following the places of their waits.
use Rattle.std.proofs.Common.{◌≡◌, inl, inr, ℕ, zero, suc, ◌<◌, true, T, List, [], ◌∷◌, ◌++◌, length, drop, get_or, map, refl, sym, ap, subst, ◌∙◌, arith}
use Rattle.std.specs.Prelude.{Option, Some, None, option_and_then, Contains}
use Rattle.std.specs.List.{IsDistinct, list_any}
use Rattle.std.specs.Option.{option_to_list}
use Rattle.std.specs.Ordering.{eq_by_cmp}
use Rattle.std.specs.Cmp.{eq_by_cmp_equiv}
use Rattle.std.specs.FinMap as finite
use Rattle.std.proofs.lemmas.List.{get_or-map, length-map}
use Rattle.std.proofs.lemmas.Map.Made.{length-le_from_is_member}
use Rattle.std.proofs.lemmas.Map.Views.{Contains-from_any}
use Rattle.fm_base.proofs.PathLaws.{path_total}
use Rattle.fm_base.specs.PathOrder.{path_cmp}
use Rattle.fm_graph.specs.Graph.{IsEdge, IsWalk, Reaches, edges_of}
use Rattle.fm_finmap.proofs.Keys.{path_order, tie}
use Rattle.fm_wait.specs.Cycles.{others_on_ring, way}
use Rattle.fm_wait.specs.Places.{next_places, place_of, places_from}
use Rattle.fm_wait.specs.Waits.{Pairs, next_path, waits_for}
use Rattle.fm_mean.specs.declared.outcome.Outcome.{Outcome}
use Rattle.fm_mean.specs.declared.outcome.Wait.{Wait}
use Rattle.fm_wait.proofs.Firsts.{stands, waiting, waiting_listed}
use Rattle.fm_wait.proofs.Members.{Has, has_from_contains, same_some}
use Rattle.fm_wait.proofs.Ways.{IsWay, Leads, Steps, distinct_more, way_avoids, way_distinct, way_follows, way_found, way_is}

-- the place of a path
abbrev pub Place : Outcome → Pairs → ℕ → Type 0
Place o q i = finite.get (places_from o.waits 0) q ≡ Some i

abbrev pub graph : Outcome → List (List ℕ)
graph o = map option_to_list (next_places o)

pub length_next : (o : Outcome) → length (next_places o) ≡ length o.waits
length_next o = length-map o.waits (λ (w : Wait). place_of (places_from o.waits 0) (waits_for o w))

pub length_graph : (o : Outcome) → length (graph o) ≡ length o.waits
length_graph o = length-map (next_places o) option_to_list ∙ length_next o

pub same_path : (o : Outcome) (x y : Pairs) (i : ℕ) → Place o x i → Place o y i → x ≡ y
same_path o x y i a b = sym (stands o x i a).path ∙ (stands o y i b).path

pub same_place : (o : Outcome) (x : Pairs) (i j : ℕ) → Place o x i → Place o x j → i ≡ j
same_place o x i j a b = same_some i j (sym a ∙ b)

two_maps : {X Y Z : Type 0} (f : Y → Z) (g : X → Y) (xs : List X) → map f (map g xs) ≡ map (λ x. f (g x)) xs
two_maps f g [] = refl
two_maps f g (x ∷ xs) = ap (λ l. f (g x) ∷ l) (two_maps f g xs)

-- as the places are computed
pub next_from_on : (o : Outcome) (m : finite.FinMap path_cmp ℕ) (on : List (Option Pairs)) (next : List (Option ℕ)) → m ≡ places_from o.waits 0 → on ≡ map (waits_for o) o.waits
    → next ≡ map (place_of m) on → next ≡ next_places o
next_from_on o m on next a b h =
    h ∙ ap (map (place_of m)) b ∙ ap (λ (n : finite.FinMap path_cmp ℕ). map (place_of n) (map (waits_for o) o.waits)) a
    ∙ two_maps (place_of (places_from o.waits 0)) (waits_for o) o.waits

-- ---- edges

only_one : (v : Option ℕ) (j : ℕ) (k : ℕ) → k < length (option_to_list v) → get_or (option_to_list v) k j ≡ j → v ≡ Some j
only_one None j k l e = absurd (omega arith)
only_one (Some n) j zero l e = ap Some e
only_one (Some n) j (suc k) l e = absurd (omega arith)

one_only : (v : Option ℕ) (j : ℕ) → v ≡ Some j → Contains (option_to_list v) j
one_only None j e = cc
one_only (Some n) j e = (0, omega arith, same_some n j e)

edges_at : (o : Outcome) (x : Pairs) (i : ℕ) → Place o x i → edges_of (graph o) i ≡ option_to_list (place_of (places_from o.waits 0) (next_path o x))
edges_at o x i p =
    let s = stands o x i p in
    let below : i < length (next_places o) = omega (arith, s.below, length-map o.waits (λ (w : Wait). place_of (places_from o.waits 0) (waits_for o w))) in
    get_or-map option_to_list (next_places o) i None [] below ∙ ap option_to_list s.next

pub edge_from_next : (o : Outcome) (x y : Pairs) (i j : ℕ) → Place o x i → Place o y j → next_path o x ≡ Some y → IsEdge (graph o) i j
edge_from_next o x y i j p q e =
    subst (λ (es : List ℕ). Contains es j) (sym (edges_at o x i p))
    (one_only (place_of (places_from o.waits 0) (next_path o x)) j (ap (place_of (places_from o.waits 0)) e ∙ q))

pub next_so : (o : Outcome) (j : ℕ) (v : Option Pairs) → place_of (places_from o.waits 0) v ≡ Some j → (y : Pairs) × (v ≡ Some y) × Place o y j
next_so o j None e = cc
next_so o j (Some y) e = (y, refl, e)

pub next_from_edge : (o : Outcome) (x : Pairs) (i j : ℕ) → Place o x i → IsEdge (graph o) i j → (y : Pairs) × (next_path o x ≡ Some y) × Place o y j
next_from_edge o x i j p c =
    let d : Contains (option_to_list (place_of (places_from o.waits 0) (next_path o x))) j = subst (λ (es : List ℕ). Contains es j) (edges_at o x i p) c in
    next_so o j (next_path o x) (only_one (place_of (places_from o.waits 0) (next_path o x)) j d.0 d.1 d.2)

-- ---- walks

-- what leads to a waiting path waits
pub steps_wait : (o : Outcome) (n : ℕ) (x y : Pairs) (j : ℕ) → Place o y j → Steps (next_path o) n x y → (i : ℕ) × Place o x i
steps_wait o zero x y j p k = (j, ap (finite.get (places_from o.waits 0)) k ∙ p)
steps_wait o (suc n) x y j p k = waiting o x k.0 k.1

pub walk_from_steps : (o : Outcome) (n : ℕ) (x y : Pairs) (i j : ℕ) → Place o x i → Place o y j → Steps (next_path o) n x y → IsWalk (graph o) n i j
walk_from_steps o zero x y i j p q k = same_place o y i j (ap (finite.get (places_from o.waits 0)) (sym k) ∙ p) q
walk_from_steps o (suc n) x y i j p q k =
    let m = steps_wait o n k.0 y j q k.2 in
    (m.0, edge_from_next o x k.0 i m.0 p m.1 k.1, walk_from_steps o n k.0 y m.0 j m.1 q k.2)

pub steps_from_walk : (o : Outcome) (n : ℕ) (x y : Pairs) (i j : ℕ) → Place o x i → Place o y j → IsWalk (graph o) n i j → Steps (next_path o) n x y
steps_from_walk o zero x y i j p q e = same_path o x y j (p ∙ ap Some e) q
steps_from_walk o (suc n) x y i j p q k =
    let z = next_from_edge o x i k.0 p k.1 in
    (z.0, z.1, steps_from_walk o n z.0 y k.0 j z.2 q k.2)

pub reaches : (o : Outcome) (x y : Pairs) (i j : ℕ) → Place o x i → Place o y j → Leads (next_path o) x y → Reaches (graph o) i j
reaches o x y i j p q k = (k.0, walk_from_steps o k.0 x y i j p q k.1)

pub leads : (o : Outcome) (x y : Pairs) (i j : ℕ) → Place o x i → Place o y j → Reaches (graph o) i j → Leads (next_path o) x y
leads o x y i j p q k = (k.0, steps_from_walk o k.0 x y i j p q k.1)

-- ---- no ring is longer than the list of waits

next_of_each : (f : Pairs → Option Pairs) (xs : List Pairs) (ys : List Pairs) → map f xs ≡ map Some ys → (x : Pairs) → Has xs x → (z : Pairs) × (f x ≡ Some z)
next_of_each f [] ys e x h = absurd h
next_of_each f (w ∷ xs) [] e x h = absurd (subst T (ap (list_any (λ v. true)) e) tt)
next_of_each f (w ∷ xs) (y ∷ ys) e x (inl s) = (y, ap f (sym s) ∙ ap (λ (l : List (Option Pairs)). get_or l 0 None) e)
next_of_each f (w ∷ xs) (y ∷ ys) e x (inr h) = next_of_each f xs ys (ap (λ (l : List (Option Pairs)). drop 1 l) e) x h

pub ring_waits : (o : Outcome) (p x : Pairs) (ps : List Pairs) → next_path o p ≡ Some x → IsWay (next_path o) p x ps → (q : Pairs) → Has (p ∷ ps) q → (i : ℕ) × Place o q i
ring_waits o p x ps e h q i =
    let z = next_of_each (next_path o) (p ∷ ps) (ps ++ p ∷ []) (way_follows (next_path o) p p x ps e h) q i in
    waiting o q z.0 z.1

pub ring_distinct : (o : Outcome) (p x : Pairs) (ps : List Pairs) → IsWay (next_path o) p x ps → IsDistinct (eq_by_cmp path_cmp) (p ∷ ps)
ring_distinct o p x ps h =
    distinct_more p ps (λ q i e. way_avoids (next_path o) p x ps h (subst (λ (r : Pairs). Has ps r) (sym e) i)) (way_distinct (next_path o) p x ps h)

ring_short : (o : Outcome) (p x : Pairs) (ps : List Pairs) → next_path o p ≡ Some x → IsWay (next_path o) p x ps → length ps < length o.waits
ring_short o p x ps e h =
    let all = length-le_from_is_member (eq_by_cmp_equiv path_total) (p ∷ ps) (map (λ (w : Wait). w.path) o.waits) (ring_distinct o p x ps h)
    (λ q m.
    let i = ring_waits o p x ps e h q (has_from_contains (p ∷ ps) q (Contains-from_any (tie path_order) q (p ∷ ps) m)) in
    let s = stands o q i.0 i.1 in
    waiting_listed o.waits q s.wait s.waits) in
    omega (arith, all, length-map o.waits (λ (w : Wait). w.path))

-- ---- the ring of a path

pub ring_found : (o : Outcome) (p x : Pairs) (ps : List Pairs) → next_path o p ≡ Some x → IsWay (next_path o) p x ps → others_on_ring o p ≡ Some ps
ring_found o p x ps e h =
    ap (option_and_then (λ q. way (next_path o) (length o.waits) q p)) e ∙ way_found (next_path o) p (length o.waits) x ps h (ring_short o p x ps e h)

-- the ring of a path, from the next one on
pub record IsRing (o : Outcome) (p : Pairs) (ps : List Pairs) : Type 0 where
  pub next : Pairs
  pub is_next : next_path o p ≡ Some next
  pub is_way : IsWay (next_path o) p next ps
  pub short : length ps < length o.waits

ring_so : (o : Outcome) (p : Pairs) (ps : List Pairs) (v : Option Pairs) → next_path o p ≡ v → option_and_then (λ q. way (next_path o) (length o.waits) q p) v ≡ Some ps → IsRing o p ps
ring_so o p ps None is e = cc
ring_so o p ps (Some x) is e = let w = way_is (next_path o) p (length o.waits) x ps e in record { next = x; is_next = is; is_way = w.0; short = w.1 }

pub ring_is : (o : Outcome) (p : Pairs) (ps : List Pairs) → others_on_ring o p ≡ Some ps → IsRing o p ps
ring_is o p ps e = ring_so o p ps (next_path o p) refl e
