-- Rows sorted by their places are the entries of the finite map.
use Rattle.std.proofs.Common.{◌≡◌, ℕ, zero, suc, ◌<◌, ◌≤◌, Option, Some, None, Bool, Bor, true, false, cond, get_or, List, [], ◌∷◌, map, length, refl, sym, ap, ap₂, subst, ◌∙◌, arith}
use Rattle.std.specs.List.{AllByRecursion, Contains, IsDistinct}
use Rattle.std.specs.List.Sorted.{IsPermutation, IsSortedByKey, IsStrictlySortedBy}
use Rattle.std.specs.Map.Iter.{deref_pair}
use Rattle.std.specs.Ordering.{eq_by_cmp, is_lt, ordering_reverse}
use Rattle.std.specs.FinMap.{entries, find}
use Rattle.std.specs.declared.cmp.Ordering.{Ordering}
use Rattle.std.specs.declared.cmp.Ordering.TheVariants.{Less, Equal, Greater}
use Rattle.std.proofs.lemmas.List.MinMax.{ranks_by}
use Rattle.std.proofs.lemmas.Simd.{map-map}
use Rattle.std.proofs.lemmas.List.Sorted.{Contains-permutation, IsPermutation-map, IsPermutation-sym, sorted_far}
use Rattle.std.proofs.lemmas.Map.Keys.{IsDistinct-IsPermutation}
use Rattle.std.proofs.lemmas.Option.{slice_get-get_or}
use Rattle.fm_base.specs.PathOrder.{path_cmp}
use Rattle.fm_base.specs.declared.path.Path.{Path}
use Rattle.fm_finmap.specs.Keys.{IsKeyOrder}
use Rattle.fm_finmap.specs.Map.{map_of}
use Rattle.fm_finmap.proofs.Keys.{path_order, same, tie}
use Rattle.fm_finmap.proofs.Maps.{entries-map_of}
use Rattle.fm_finmap.specs.Rows.{Place, AreDistinct, numbered_map, places}
use Rattle.fm_finmap.proofs.Rows.{find_entry, flips, get_entry, some_same}

module _ {K : Type 0} {R : K → K → Ordering} (o : IsKeyOrder R) where
  -- what isn't above and isn't equal is below
  below : (x y : K) → is_lt (R y x) ≡ false → eq_by_cmp R x y ≡ false → R x y ≡ Less
  below x y low apart = go (R x y) refl apart
    where
      go : (r : Ordering) → R x y ≡ r → eq_by_cmp R x y ≡ false → R x y ≡ Less
      go Less is apart = is
      go Equal is apart = absurd (cc (sym apart ∙ ap (λ z. eq_by_cmp (λ (a b : K). z) x y) is))
      go Greater is apart = absurd (cc (sym low ∙ ap is_lt (o.total.antisymm y x ∙ ap ordering_reverse is)))

  all_below : {X : Type 0} (key : X → K) (x : K) (ys : List X) → ((j : ℕ) (d : X) → j < length ys → is_lt (R (key (get_or ys j d)) x) ≡ false) → AllByRecursion (λ y. eq_by_cmp R x y ≡ false) (map key ys) → AllByRecursion (λ y. R x y ≡ Less) (map key ys)
  all_below key x [] low apart = tt
  all_below key x (y ∷ ys) low apart = (below x (key y) (low zero y (omega arith)) apart.0, all_below key x ys (λ j d within. low (suc j) d (omega arith)) apart.1)

  strictly : {X : Type 0} (key : X → K) (xs : List X) → ((i j : ℕ) (d : X) → i ≤ j → j < length xs → is_lt (R (key (get_or xs j d)) (key (get_or xs i d))) ≡ false) → IsDistinct (eq_by_cmp R) (map key xs) → IsStrictlySortedBy R (map key xs)
  unfolding IsDistinct IsStrictlySortedBy
  strictly key [] up once = tt
  strictly key (x ∷ xs) up once =
      (all_below key (key x) xs (λ j d within. up zero (suc j) d (omega arith) (omega arith)) once.0, strictly key xs (λ i j d le within. up (suc i) (suc j) d (omega arith) (omega arith)) once.1)

  module _ {X : Type 0} where
    -- what is found is an entry
    contained : (es : List (K × X)) (q : K) (x : X) → find R q es ≡ Some x → Contains es (q, x)
    contained [] q x is = absurd (cc is)
    contained (e ∷ es) q x is = go (eq_by_cmp R q e.0) refl is (contained es q x)
      where
        go : (b : Bool) → eq_by_cmp R q e.0 ≡ b → cond b (Some e.1) (find R q es) ≡ Some x → (find R q es ≡ Some x → Contains es (q, x)) → Contains (e ∷ es) (q, x)
        go true ties is rest = (zero, omega arith, ap₂ (λ (a : K) (b : X). (a, b)) (sym (tie o q e.0 ties)) (some_same e.1 x is))
        go false ties is rest = let c = rest is in (suc c.0, omega (arith, c.1), c.2)

    found : (es : List (K × X)) (q : K) (x : X) → IsDistinct (eq_by_cmp R) (map (λ (e : K × X). e.0) es) → Contains es (q, x) → find R q es ≡ Some x
    found es q x once c = find_entry o es c.0 q x once (slice_get-get_or es c.0 (q, x) c.1 ∙ ap Some c.2)

    -- entries in another order give the same map
    moved : (es fs : List (K × X)) → IsPermutation es fs → IsDistinct (eq_by_cmp R) (map (λ (e : K × X). e.0) es) → IsDistinct (eq_by_cmp R) (map (λ (e : K × X). e.0) fs) → map_of R es ≡ map_of R fs
    moved es fs turns once again = same o _ _ (λ q. get_entry o es q ∙ go q (find R q es) (find R q fs) refl refl ∙ sym (get_entry o fs q))
      where
        go : (q : K) (a b : Option X) → find R q es ≡ a → find R q fs ≡ b → find R q es ≡ find R q fs
        go q None None ea fb = ea ∙ sym fb
        go q (Some x) b ea fb = ea ∙ sym (found fs q x again (Contains-permutation es fs (q, x) turns (contained es q x ea)))
        go q None (Some x) ea fb = found es q x once (Contains-permutation fs es (q, x) (IsPermutation-sym es fs turns) (contained fs q x fb)) ∙ sym fb

-- the rows in another order, in which no place is above a later one
pub sorted_entries : {T : Type 0} (rows : List (Place × T)) (before after : List (Bor Path × Bor T)) → AreDistinct (places rows) → map (deref_pair {K = Path} {X = T}) before ≡ rows → IsPermutation before after
    → IsSortedByKey (λ (row : Bor Path × Bor T). row.0.now) path_cmp after → map (deref_pair {K = Path} {X = T}) after ≡ entries (numbered_map rows)
sorted_entries {T} rows before after once is turns up =
    let show = deref_pair {K = Path} {X = T} in
    let key : Bor Path × Bor T → Place = λ (row : Bor Path × Bor T). row.0.now in
    let es : List (Place × T) = map show after in
    let turned : IsPermutation rows es = subst (λ (rs : List (Place × T)). IsPermutation rs es) is (IsPermutation-map show before after turns) in
    let again : AreDistinct (places es) = IsDistinct-IsPermutation (eq_by_cmp path_cmp) (flips path_order) (places rows) (places es) (IsPermutation-map (λ (row : Place × T). row.0) rows es turned) once in
    let keys : places es ≡ map key after = map-map (λ (row : Place × T). row.0) show after in
    let far = sorted_far (λ (x y : Bor Path × Bor T). is_lt (path_cmp (key x) (key y))) (ranks_by path_order.total key) after up in
    let rises : IsStrictlySortedBy path_cmp (places es) = subst (IsStrictlySortedBy path_cmp) (sym keys) (strictly path_order key after far (subst AreDistinct keys again)) in
    entries-map_of path_order es es refl rises ∙ ap entries (sym (moved path_order rows es turned once again))
