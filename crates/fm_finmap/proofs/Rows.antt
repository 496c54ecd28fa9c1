-- The laws of rows: a look-up by number is one by place, and a change at a number is one at its place.
use Rattle.std.proofs.Common.{◌≡◌, ℕ, zero, suc, Option, Some, None, Bool, true, false, cond, List, [], ◌∷◌, ◌++◌, map, refl, sym, ap, subst, ◌∙◌}
use Rattle.std.specs.Prelude.{is_some, option_map, slice_get}
use Rattle.std.specs.List.{AllByRecursion, IsDistinct}
use Rattle.std.specs.Ordering.{eq_by_cmp}
use Rattle.std.specs.FinMap.{find, from_entries_push, get, get-from_entries, insert}
use Rattle.std.specs.declared.cmp.Ordering.{Ordering}
use Rattle.std.proofs.lemmas.Cmp.{eq_by_cmp_equiv}
use Rattle.std.proofs.lemmas.Option.{slice_get-map}
use Rattle.fm_base.specs.PathOrder.{path_cmp}
use Rattle.fm_finmap.specs.Keys.{IsKeyOrder}
use Rattle.fm_finmap.specs.Map.{map_of}
use Rattle.fm_finmap.proofs.Keys.{path_order, tie_self}
use Rattle.fm_finmap.specs.Rows.{Place, AreDistinct, numbered_map, place_at, places, value_at, value_in}

-- ---- entries by a key

pub some_same : {X : Type 0} (x y : X) → Some x ≡ Some y → x ≡ y
some_same x y e = cc

pub all_at : {X : Type 0} (P : X → Type 0) (xs : List X) (n : ℕ) (x : X) → AllByRecursion P xs → slice_get xs n ≡ Some x → P x
all_at P [] n x all is = absurd (cc is)
all_at P (y ∷ ys) zero x all is = subst P (some_same y x is) all.0
all_at P (y ∷ ys) (suc n) x all is = all_at P ys n x all.1 is

pub flips : {K : Type 0} {R : K → K → Ordering} → IsKeyOrder R → (x y : K) → eq_by_cmp R x y ≡ eq_by_cmp R y x
flips o x y = (eq_by_cmp_equiv o.total).symm x y

module _ {K X : Type 0} {R : K → K → Ordering} (o : IsKeyOrder R) where
  pub get_entry : (es : List (K × X)) (q : K) → get (map_of R es) q ≡ find R q es
  unfolding map_of
  get_entry es q = get-from_entries o.total es q

  -- an entry is found by its key, where each key is there once
  pub find_entry : (es : List (K × X)) (n : ℕ) (k : K) (x : X) → IsDistinct (eq_by_cmp R) (map (λ (e : K × X). e.0) es) → slice_get es n ≡ Some (k, x) → find R k es ≡ Some x
  unfolding IsDistinct
  find_entry [] n k x once is = absurd (cc is)
  find_entry (e ∷ es) zero k x once is =
      let same : e ≡ (k, x) = some_same e (k, x) is in
      let ties : eq_by_cmp R k e.0 ≡ true = ap (λ (z : K × X). eq_by_cmp R k z.0) same ∙ tie_self o k in
      ap (λ b. cond b (Some e.1) (find R k es)) ties ∙ ap (λ (z : K × X). Some z.1) same
  find_entry (e ∷ es) (suc n) k x once is =
      let key : slice_get (map (λ (e : K × X). e.0) es) n ≡ Some k = slice_get-map (λ (e : K × X). e.0) es n ∙ ap (option_map (λ (e : K × X). e.0)) is in
      let apart : eq_by_cmp R k e.0 ≡ false = flips o k e.0 ∙ all_at (λ y. eq_by_cmp R e.0 y ≡ false) (map (λ (e : K × X). e.0) es) n k once.0 key in
      ap (λ b. cond b (Some e.1) (find R k es)) apart ∙ find_entry es n k x once.1 is

  -- a key that is there has a value
  pub find_there : (es : List (K × X)) (n : ℕ) (k : K) → slice_get (map (λ (e : K × X). e.0) es) n ≡ Some k → is_some (find R k es) ≡ true
  find_there [] n k is = absurd (cc is)
  find_there (e ∷ es) zero k is = ap (λ b. is_some (cond b (Some e.1) (find R k es))) (ap (λ z. eq_by_cmp R k z) (some_same e.0 k is) ∙ tie_self o k)
  find_there (e ∷ es) (suc n) k is = go (eq_by_cmp R k e.0) (find_there es n k is)
    where
      go : (b : Bool) → is_some (find R k es) ≡ true → is_some (cond b (Some e.1) (find R k es)) ≡ true
      go true rest = refl
      go false rest = rest

  -- a key that isn't found is none of those that are there
  apart_from : (es : List (K × X)) (k : K) → find R k es ≡ None → AllByRecursion (λ y. eq_by_cmp R y k ≡ false) (map (λ (e : K × X). e.0) es)
  apart_from [] k none = tt
  apart_from (e ∷ es) k none = go (eq_by_cmp R k e.0) refl (apart_from es k) none
    where
      go : (b : Bool) → eq_by_cmp R k e.0 ≡ b → (find R k es ≡ None → AllByRecursion (λ y. eq_by_cmp R y k ≡ false) (map (λ (e : K × X). e.0) es)) → cond b (Some e.1) (find R k es) ≡ None → (eq_by_cmp R e.0 k ≡ false) × AllByRecursion (λ y. eq_by_cmp R y k ≡ false) (map (λ (e : K × X). e.0) es)
      go true ties rest none = absurd (cc none)
      go false ties rest none = (flips o e.0 k ∙ ties, rest none)

all_append : {X : Type 0} (P : X → Type 0) (xs : List X) (y : X) → AllByRecursion P xs → P y → AllByRecursion P (xs ++ y ∷ [])
all_append P [] y all last = (last, tt)
all_append P (x ∷ xs) y all last = (all.0, all_append P xs y all.1 last)

distinct_more : {K : Type 0} (eq : K → K → Bool) (ks : List K) (k : K) → IsDistinct eq ks → AllByRecursion (λ y. eq y k ≡ false) ks → IsDistinct eq (ks ++ k ∷ [])
unfolding IsDistinct
distinct_more eq [] k once apart = (tt, tt)
distinct_more eq (x ∷ ks) k once apart = (all_append (λ y. eq x y ≡ false) ks k once.0 apart.0, distinct_more eq ks k once.1 apart.1)

-- ---- rows

module _ {T : Type 0} where
  pub places-push : (rows : List (Place × T)) (p : Place) (x : T) → places (rows ++ (p, x) ∷ []) ≡ places rows ++ p ∷ []
  places-push [] p x = refl
  places-push (row ∷ rows) p x = ap (λ ps. row.0 ∷ ps) (places-push rows p x)

  -- a value more, at a new place
  pub map-push : (rows : List (Place × T)) (p : Place) (x : T) → get (numbered_map rows) p ≡ None → numbered_map (rows ++ (p, x) ∷ []) ≡ insert (numbered_map rows) p x
  unfolding map_of
  map-push rows p x new = from_entries_push path_order.total path_order.exact rows p x (sym (get_entry path_order rows p) ∙ new)

  pub distinct-push : (rows : List (Place × T)) (p : Place) → AreDistinct (places rows) → get (numbered_map rows) p ≡ None → AreDistinct (places rows ++ p ∷ [])
  distinct-push rows p once new = distinct_more (eq_by_cmp path_cmp) (places rows) p once (apart_from path_order rows p (sym (get_entry path_order rows p) ∙ new))

  -- each place has a value
  pub there : (rows : List (Place × T)) (n : ℕ) (p : Place) → place_at rows n ≡ Some p → is_some (get (numbered_map rows) p) ≡ true
  there rows n p is = ap is_some (get_entry path_order rows p) ∙ find_there path_order rows n p is

  -- the value at the place of a row is the row's
  pub row_value : (rows : List (Place × T)) (n : ℕ) → AreDistinct (places rows) → option_map (λ (row : Place × T). row.1) (slice_get rows n) ≡ value_at rows n
  row_value rows n once = go (slice_get rows n) refl
    where
      at : (v : Option (Place × T)) → slice_get rows n ≡ v → place_at rows n ≡ option_map (λ (row : Place × T). row.0) v
      at v is = slice_get-map (λ (row : Place × T). row.0) rows n ∙ ap (option_map (λ (row : Place × T). row.0)) is

      go : (v : Option (Place × T)) → slice_get rows n ≡ v → option_map (λ (row : Place × T). row.1) v ≡ value_at rows n
      go None is = ap (value_in (numbered_map rows)) (sym (at None is))
      go (Some row) is =
          sym (get_entry path_order rows row.0 ∙ find_entry path_order rows n row.0 row.1 once is)
          ∙ ap (value_in (numbered_map rows)) (sym (at (Some row) is))
