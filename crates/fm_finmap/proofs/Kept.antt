-- Rows as they are kept: places and values apart.
use Rattle.std.proofs.Common.{Bor, ◌≡◌, ℕ, zero, suc, ◌+◌, ◌<◌, Option, Some, None, false, cond, List, [], ◌∷◌, ◌++◌, length, refl, sym, ap, ap₂, subst, ◌∙◌, arith, get_or, length-append, length-set, take, ◌≤◌}
use Rattle.std.specs.Prelude.{option_map, slice_get, slice_set}
use Rattle.std.specs.Arc.{arc_value}
use Rattle.std.specs.List.{IsDistinct, ItemBy, zip}
use Rattle.std.specs.Option.{option_copied}
use Rattle.std.specs.Ordering.{eq_by_cmp}
use Rattle.std.specs.FinMap.{find, get, get-insert}
use Rattle.std.specs.declared.cmp.Ordering.{Ordering}
use Rattle.std.specs.declared.alloc.Global.{Global}
use Rattle.std.specs.declared.sync.Arc.{Arc}
use Rattle.std.proofs.lemmas.List.{get_or-map, length-map, map-append, take_all, take_more}
use Rattle.std.proofs.lemmas.Option.{slice_get_past, slice_get_read, slice_get-map}
use Rattle.std.proofs.lemmas.Slice.Zip.{firsts-zip, get_or-zip, seconds-zip}
use Rattle.fm_base.specs.PathOrder.{path_cmp}
use Rattle.fm_base.specs.declared.path.Path.{Path}
use Rattle.fm_finmap.specs.Keys.{IsKeyOrder}
use Rattle.fm_finmap.proofs.Keys.{crossed, once_more, path_order, same, tie, tie_self}
use Rattle.fm_finmap.specs.Rows.{Place, AreDistinct, HasRows, numbered_map, place_at, places, places_in, value_at}
use Rattle.fm_finmap.specs.TableLends.{Changes}
use Rattle.fm_finmap.proofs.Rows.{all_at, distinct-push, get_entry, row_value, some_same}

-- what is lent by its number is what is there
pub lent_at : {B X : Type 0} (now : B → X) (xs : List X) (n : ℕ) (r : Option B) → ItemBy now xs n n r → option_map now r ≡ slice_get xs n
lent_at now xs n None is = sym (slice_get_past xs n is.3)
lent_at now xs n (Some x) is = sym (slice_get_read xs (length xs) n (now x) refl is.3.0 is.1)

-- no rows
pub none_kept : {T : Type 0} (paths : List (Arc Path Global)) (values : List T) → paths ≡ [] → values ≡ [] → HasRows (places_in paths) values
unfolding IsDistinct
none_kept paths values p v = record { each = ap length v ∙ ap (λ ps. length (places_in ps)) (sym p); once = subst (λ ps. AreDistinct (places_in ps)) (sym p) tt }

module _ {K X : Type 0} where
  zip-push : (ks : List K) (xs : List X) (k : K) (x : X) → length xs ≡ length ks → zip (ks ++ k ∷ []) (xs ++ x ∷ []) ≡ zip ks xs ++ (k, x) ∷ []
  zip-push [] [] k x each = refl
  zip-push [] (y ∷ ys) k x each = absurd (omega (arith, each))
  zip-push (j ∷ ks) [] k x each = absurd (omega (arith, each))
  zip-push (j ∷ ks) (y ∷ ys) k x each = ap (λ es. (j, y) ∷ es) (zip-push ks ys k x (omega (arith, each)))

  module _ {R : K → K → Ordering} (o : IsKeyOrder R) where
    -- where the value of one key is another, that key has it, and other keys have what they had
    find-set : (ks : List K) (xs : List X) (n : ℕ) (k : K) (x : X) (q : K) → length xs ≡ length ks → IsDistinct (eq_by_cmp R) ks → slice_get ks n ≡ Some k
        → find R q (zip ks (slice_set xs n x)) ≡ cond (eq_by_cmp R q k) (Some x) (find R q (zip ks xs))
    unfolding IsDistinct
    find-set [] xs n k x q each once is = absurd (cc is)
    find-set (j ∷ ks) [] n k x q each once is = absurd (omega (arith, each))
    find-set (j ∷ ks) (y ∷ ys) zero k x q each once is =
        sym (once_more (eq_by_cmp R q j) (Some x) (Some y) (find R q (zip ks ys)))
        ∙ ap (λ z. cond (eq_by_cmp R q z) (Some x) (cond (eq_by_cmp R q j) (Some y) (find R q (zip ks ys)))) (some_same j k is)
    find-set (j ∷ ks) (y ∷ ys) (suc n) k x q each once is =
        let apart : eq_by_cmp R j k ≡ false = all_at (λ z. eq_by_cmp R j z ≡ false) ks n k once.0 is in
        ap (cond (eq_by_cmp R q j) (Some y)) (find-set ks ys n k x q (omega (arith, each)) once.1 is)
        ∙ crossed (eq_by_cmp R q j) (eq_by_cmp R q k) (Some y) (Some x) (find R q (zip ks ys))
        (λ a b. cc (sym apart ∙ ap (λ z. eq_by_cmp R z k) (sym (tie o q j a) ∙ tie o q k b) ∙ tie_self o k))

-- the rows of places and values
module _ {T : Type 0} (ps : List Place) (values : List T) (h : HasRows ps values) where
  pub places_kept : places (zip ps values) ≡ ps
  places_kept = firsts-zip ps values h.each

  pub value_kept : (n : ℕ) → slice_get values n ≡ value_at (zip ps values) n
  value_kept n =
      ap (λ xs. slice_get xs n) (sym (seconds-zip ps values h.each)) ∙ slice_get-map (λ (row : Place × T). row.1) (zip ps values) n
      ∙ row_value (zip ps values) n (subst AreDistinct (sym places_kept) h.once)

  pub length_kept : length values ≡ length (zip ps values)
  length_kept = ap length (sym (seconds-zip ps values h.each)) ∙ length-map (zip ps values) (λ (row : Place × T). row.1)

  -- another value behind a number
  pub change_kept : (n : ℕ) (x : T) (p : Place) → place_at (zip ps values) n ≡ Some p → Changes (zip ps values) (zip ps (slice_set values n x)) p x
  change_kept n x p at =
      let is : slice_get ps n ≡ Some p = ap (λ qs. slice_get qs n) (sym places_kept) ∙ at in
      record {
        map_is = same path_order _ _ (λ q.
            get_entry path_order (zip ps (slice_set values n x)) q ∙ find-set path_order ps values n p x q h.each h.once is
            ∙ ap (cond (eq_by_cmp path_cmp q p) (Some x)) (sym (get_entry path_order (zip ps values) q))
            ∙ sym (get-insert path_order.total (numbered_map (zip ps values)) p x q));
        places_are = firsts-zip ps (slice_set values n x) (length-set values n x ∙ h.each) ∙ sym places_kept;
      }

  -- a value more
  pub push_kept : (p : Place) (x : T) → get (numbered_map (zip ps values)) p ≡ None → HasRows (ps ++ p ∷ []) (values ++ x ∷ [])
  push_kept p x new = record {
    each = omega (arith, length-append values (x ∷ []), length-append ps (p ∷ []), h.each);
    once = subst (λ qs. AreDistinct (qs ++ p ∷ [])) places_kept (distinct-push (zip ps values) p (subst AreDistinct (sym places_kept) h.once) new);
  }

  pub rows_kept : (p : Place) (x : T) → zip (ps ++ p ∷ []) (values ++ x ∷ []) ≡ zip ps values ++ (p, x) ∷ []
  rows_kept p x = zip-push ps values p x h.each

-- the same of paths and values, where the rows are known
module _ {T : Type 0} (paths : List (Arc Path Global)) (values : List T) (rows : List (Place × T)) (h : HasRows (places_in paths) values) (is : zip (places_in paths) values ≡ rows) where
  pub places_are : places_in paths ≡ places rows
  places_are = sym (places_kept (places_in paths) values h) ∙ ap (λ rs. places rs) is

  pub path_lent : (n : ℕ) (r : Option (Bor (Arc Path Global))) → ItemBy (λ (b : Bor (Arc Path Global)). b.now) paths n n r → option_map (λ (a : Arc Path Global). arc_value a) (option_copied r) ≡ place_at rows n
  path_lent n r lent =
      ap (option_map (λ (a : Arc Path Global). arc_value a)) (lent_at (λ (b : Bor (Arc Path Global)). b.now) paths n r lent)
      ∙ sym (slice_get-map (λ (a : Arc Path Global). arc_value a) paths n) ∙ ap (λ ps. slice_get ps n) places_are

  pub value_lent : (n : ℕ) {B : Type 0} (now : B → T) (r : Option B) → ItemBy now values n n r → option_map now r ≡ value_at rows n
  value_lent n now r lent = lent_at now values n r lent ∙ value_kept (places_in paths) values h n ∙ ap (λ rs. value_at rs n) is

  pub count_is : length values ≡ length rows
  count_is = length_kept (places_in paths) values h ∙ ap length is

  pub changed : (n : ℕ) (x : T) (p : Place) → place_at rows n ≡ Some p → Changes rows (zip (places_in paths) (slice_set values n x)) p x
  changed n x p at =
      subst (λ rs. Changes rs (zip (places_in paths) (slice_set values n x)) p x) is (change_kept (places_in paths) values h n x p (ap (λ rs. place_at rs n) is ∙ at))

  -- one row more
  pub row_more : (n : ℕ) (path : Arc Path Global) (x : T) → n < length paths → path ≡ get_or paths n path → x ≡ get_or values n x → take (n + 1) rows ≡ take n rows ++ (arc_value path, x) ∷ []
  row_more n path x within p v =
      let ps : List Place = places_in paths in
      let d : Place × T = (arc_value path, x) in
      let each : length values ≡ length ps = h.each in
      let long : length ps ≡ length paths = length-map paths (λ (a : Arc Path Global). arc_value a) in
      let row : get_or rows n d ≡ d =
      ap (λ (rs : List (Place × T)). get_or rs n d) (sym is) ∙ get_or-zip ps values n d (omega arith) (omega arith)
      ∙ ap₂ (λ (a : Place) (b : T). (a, b)) (get_or-map (λ (a : Arc Path Global). arc_value a) paths n path (arc_value path) within ∙ ap (λ (a : Arc Path Global). arc_value a) (sym p)) (sym v) in
      take_more rows n d (omega (arith, count_is)) ∙ ap (λ (r : Place × T). take n rows ++ r ∷ []) row

  pub all_rows : (n : ℕ) → length paths ≤ n → take n rows ≡ rows
  all_rows n past = take_all n rows (omega (arith, count_is, h.each, length-map paths (λ (a : Arc Path Global). arc_value a)))

  pub are_once : AreDistinct (places rows)
  are_once = subst AreDistinct places_are h.once

  -- and where a value more is kept
  module _ (path : Arc Path Global) (x : T) (more : List (Arc Path Global)) (others : List T) (m : more ≡ paths ++ path ∷ []) (o : others ≡ values ++ x ∷ []) where
    places_more : places_in more ≡ places_in paths ++ arc_value path ∷ []
    places_more = ap places_in m ∙ map-append (λ (a : Arc Path Global). arc_value a) paths (path ∷ [])

    pub has_more : get (numbered_map rows) (arc_value path) ≡ None → HasRows (places_in more) others
    has_more new =
        let kept = push_kept (places_in paths) values h (arc_value path) x (ap (λ rs. get (numbered_map rs) (arc_value path)) is ∙ new) in
        record { each = ap length o ∙ kept.each ∙ ap length (sym places_more); once = subst AreDistinct (sym places_more) kept.once }

    pub rows_more : zip (places_in more) others ≡ rows ++ (arc_value path, x) ∷ []
    rows_more = ap₂ zip places_more o ∙ rows_kept (places_in paths) values h (arc_value path) x ∙ ap (λ rs. rs ++ (arc_value path, x) ∷ []) is
