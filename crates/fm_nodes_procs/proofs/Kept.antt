-- Rows as they are kept: places and values apart.
use Rattle.std.proofs.Common.{Bor, ◌≡◌, ℕ, zero, suc, ◌+◌, ◌<◌, ◌≤◌, Option, Some, None, true, false, cond, List, [], ◌∷◌, ◌++◌, length, refl, sym, ap, ap₂, subst, ◌∙◌, arith, get_or, take, length-append, length-set}
use Rattle.std.specs.Prelude.{option_map, slice_get, slice_set}
use Rattle.std.specs.Arc.{arc_value}
use Rattle.std.specs.List.{IsDistinct, ItemBy, zip}
use Rattle.std.specs.Ordering.{eq_by_cmp}
use Rattle.std.specs.FinMap.{find, get, get-empty, get-insert, empty, insert}
use Rattle.std.specs.declared.cmp.Ordering.{Ordering}
use Rattle.std.specs.declared.alloc.Global.{Global}
use Rattle.std.specs.declared.sync.Arc.{Arc}
use Rattle.std.proofs.lemmas.List.{get_or-map, map-append, length-map, take_all, take_more}
use Rattle.std.proofs.lemmas.Option.{slice_get_past, slice_get_read, slice_get-map}
use Rattle.std.proofs.lemmas.Slice.Zip.{firsts-zip, get_or-zip, seconds-zip}
use Rattle.fm_base.specs.PathOrder.{path_cmp}
use Rattle.fm_base.specs.declared.path.Path.{Path}
use Rattle.fm_finmap.specs.Keys.{IsKeyOrder}
use Rattle.fm_finmap.proofs.Keys.{crossed, once_more, path_order, same, tie, tie_self, tie_not}
use Rattle.fm_finmap.proofs.Maps.{map_of-nil}
use Rattle.fm_nodes_procs.specs.Processes.{is_the}
use Rattle.fm_finmap.specs.Rows.{Place, AreDistinct, HasRows, numbered_map, places, places_in, value_in}
use Rattle.fm_finmap.proofs.Rows.{all_at, get_entry, map-push, row_value, some_same}

-- what is lent by its number is what is there
pub lent_at : {B X : Type 0} (now : B → X) (xs : List X) (n : ℕ) (r : Option B) → ItemBy now xs n n r → option_map now r ≡ slice_get xs n
lent_at now xs n None is = sym (slice_get_past xs n is.3)
lent_at now xs n (Some x) is = sym (slice_get_read xs (length xs) n (now x) refl is.3.0 is.1)

-- what is there lies below the length
pub low : {X : Type 0} (xs : List X) (n : ℕ) (x : X) → slice_get xs n ≡ Some x → n < length xs
low [] n x at = absurd (cc at)
low (y ∷ ys) zero x at = omega arith
low (y ∷ ys) (suc n) x at = omega (arith, low ys n x at)

pub none_kept : {T : Type 0} (paths : List (Arc Path Global)) (values : List T) → paths ≡ [] → values ≡ [] → HasRows (places_in paths) values
unfolding IsDistinct
none_kept paths values p v = record { each = ap length v ∙ ap (λ ps. length (places_in ps)) (sym p); once = subst (λ ps. AreDistinct (places_in ps)) (sym p) tt }

pub none_there : {T : Type 0} (paths : List (Arc Path Global)) (values : List T) → paths ≡ [] → numbered_map (zip (places_in paths) values) ≡ empty
none_there paths values p = map_of-nil path_cmp _ (ap (λ ps. zip (places_in ps) values) p)

module _ {K X : Type 0} {R : K → K → Ordering} (o : IsKeyOrder R) where
  -- where the value of one key is another, that key has it, and other keys have what they had
  find-set : (ks : List K) (xs : List X) (n : ℕ) (k : K) (x : X) (q : K) → length xs ≡ length ks → IsDistinct (eq_by_cmp R) ks → slice_get ks n ≡ Some k
      → find R q (zip ks (slice_set xs n x)) ≡ cond (eq_by_cmp R q k) (Some x) (find R q (zip ks xs))
  unfolding IsDistinct
  find-set [] xs n k x q each once is = absurd (cc is)
  find-set (j ∷ ks) [] n k x q each once is = absurd (omega (arith, each))
  find-set (j ∷ ks) (y ∷ ys) zero k x q each once is =
      sym (once_more (eq_by_cmp R q j) (Some x) (Some y) (find R q (zip ks ys)))
      ∙ ap (λ z. cond (eq_by_cmp R q z) (Some x) (cond (eq_by_cmp R q j) (Some y) (find R q (zip ks ys)))) (some_same j k is)
  find-set (j ∷ ks) (y ∷ ys) (suc n) k x q each once is =
      let apart : eq_by_cmp R j k ≡ false = all_at (λ z. eq_by_cmp R j z ≡ false) ks n k once.0 is in
      ap (cond (eq_by_cmp R q j) (Some y)) (find-set ks ys n k x q (omega (arith, each)) once.1 is)
      ∙ crossed (eq_by_cmp R q j) (eq_by_cmp R q k) (Some y) (Some x) (find R q (zip ks ys))
      (λ a b. cc (sym apart ∙ ap (λ z. eq_by_cmp R z k) (sym (tie o q j a) ∙ tie o q k b) ∙ tie_self o k))

  -- a key that is none of these isn't found
  find-none : (ks : List K) (xs : List X) (q : K) → ((n : ℕ) → slice_get ks n ≡ Some q → ⊥) → find R q (zip ks xs) ≡ None
  find-none [] xs q none = refl
  find-none (j ∷ ks) [] q none = refl
  find-none (j ∷ ks) (y ∷ ys) q none =
      ap (λ b. cond b (Some y) (find R q (zip ks ys))) (tie_not o q j (λ e. none 0 (ap Some (sym e)))) ∙ find-none ks ys q (λ n. none (suc n))

zip-append : {K X : Type 0} (ks : List K) (xs : List X) (js : List K) (ys : List X) → length xs ≡ length ks → zip (ks ++ js) (xs ++ ys) ≡ zip ks xs ++ zip js ys
zip-append [] [] js ys each = refl
zip-append [] (x ∷ xs) js ys each = absurd (omega (arith, each))
zip-append (k ∷ ks) [] js ys each = absurd (omega (arith, each))
zip-append (k ∷ ks) (x ∷ xs) js ys each = ap (λ es. (k, x) ∷ es) (zip-append ks xs js ys (omega (arith, each)))

module _ {T : Type 0} (paths : List (Arc Path Global)) (values : List T) (h : HasRows (places_in paths) values) where
  abbrev pub order : List Place
  order = places_in paths

  abbrev pub rows : List (Place × T)
  rows = zip order values

  pub places_kept : places rows ≡ order
  places_kept = firsts-zip order values h.each

  pub value_kept : (n : ℕ) (p : Place) → slice_get order n ≡ Some p → slice_get values n ≡ get (numbered_map rows) p
  value_kept n p at =
      ap (λ xs. slice_get xs n) (sym (seconds-zip order values h.each)) ∙ slice_get-map (λ (row : Place × T). row.1) rows n
      ∙ row_value rows n (subst AreDistinct (sym places_kept) h.once) ∙ ap (value_in (numbered_map rows)) (ap (λ qs. slice_get qs n) places_kept ∙ at)

  pub value_there : (n : ℕ) (p : Place) (x : T) → slice_get order n ≡ Some p → Some x ≡ slice_get values n → get (numbered_map rows) p ≡ Some x
  value_there n p x at is = sym (is ∙ value_kept n p at)

  pub read_there : (n : ℕ) (p : Place) (x : T) → slice_get order n ≡ Some p → x ≡ get_or values n x → get (numbered_map rows) p ≡ Some x
  read_there n p x at is = value_there n p x at (sym (slice_get_read values (length values) n x refl (omega (arith, low order n p at, h.each)) is))

  pub value_lent : (n : ℕ) (p : Place) → slice_get order n ≡ Some p → {B : Type 0} (now : B → T) (r : Option B) → ItemBy now values n n r → option_map now r ≡ get (numbered_map rows) p
  value_lent n p at now r lent = lent_at now values n r lent ∙ value_kept n p at

  rows_count : length values ≡ length rows
  rows_count = ap length (sym (seconds-zip order values h.each)) ∙ length-map rows (λ (row : Place × T). row.1)

  -- one row more
  pub row_more : (n : ℕ) (path : Arc Path Global) (x : T) → n < length paths → path ≡ get_or paths n path → x ≡ get_or values n x → take (n + 1) rows ≡ take n rows ++ (arc_value path, x) ∷ []
  row_more n path x within p v =
      let row : Place × T = (arc_value path, x) in
      let long : length order ≡ length paths = length-map paths (λ (a : Arc Path Global). arc_value a) in
      let each : length values ≡ length order = h.each in
      let is : get_or rows n row ≡ row =
      get_or-zip order values n row (omega arith) (omega arith)
      ∙ ap₂ (λ (a : Place) (b : T). (a, b)) (get_or-map (λ (a : Arc Path Global). arc_value a) paths n path (arc_value path) within ∙ ap (λ (a : Arc Path Global). arc_value a) (sym p)) (sym v) in
      take_more rows n row (omega (arith, rows_count)) ∙ ap (λ (r : Place × T). take n rows ++ r ∷ []) is

  pub all_rows : (n : ℕ) → length paths ≤ n → take n rows ≡ rows
  all_rows n past = take_all n rows (omega (arith, rows_count, h.each, length-map paths (λ (a : Arc Path Global). arc_value a)))

  pub absent : (p : Place) → ((n : ℕ) → slice_get order n ≡ Some p → ⊥) → get (numbered_map rows) p ≡ None
  absent p none = get_entry path_order rows p ∙ find-none path_order order values p none

  -- another value behind a number
  pub change_kept : (n : ℕ) (x : T) (p : Place) → slice_get order n ≡ Some p → numbered_map (zip order (slice_set values n x)) ≡ insert (numbered_map rows) p x
  change_kept n x p at = same path_order _ _ (λ q.
      get_entry path_order (zip order (slice_set values n x)) q ∙ find-set path_order order values n p x q h.each h.once at
      ∙ ap (cond (eq_by_cmp path_cmp q p) (Some x)) (sym (get_entry path_order rows q))
      ∙ sym (get-insert path_order.total (numbered_map rows) p x q))

  pub set_kept : (n : ℕ) (x : T) → HasRows order (slice_set values n x)
  set_kept n x = record { each = length-set values n x ∙ h.each; once = h.once }

  -- values more
  module _ (more : List (Arc Path Global)) (others : List T) (each : length others ≡ length more) where
    pub order_more : places_in (paths ++ more) ≡ order ++ places_in more
    order_more = map-append (λ (a : Arc Path Global). arc_value a) paths more

    pub append_kept : AreDistinct (order ++ places_in more) → HasRows (places_in (paths ++ more)) (values ++ others)
    append_kept once = record {
      each = omega (arith, length-append values others, length-map (paths ++ more) (λ (a : Arc Path Global). arc_value a), length-append paths more, length-map paths (λ (a : Arc Path Global). arc_value a), h.each, each);
      once = subst AreDistinct (sym order_more) once;
    }

    pub rows_more : zip (places_in (paths ++ more)) (values ++ others) ≡ rows ++ zip (places_in more) others
    rows_more = ap (λ ps. zip ps (values ++ others)) order_more ∙ zip-append order values (places_in more) others h.each

-- what lies at a number is this place, or another one
pub the_place : (p : Place) (o : Option Place) → is_the p o ≡ true → o ≡ Some p
the_place p None e = absurd (cc e)
the_place p (Some q) e = ap Some (tie path_order q p e)

pub another_place : (p : Place) (o : Option Place) → is_the p o ≡ false → o ≡ Some p → ⊥
another_place p o e is = cc (sym e ∙ ap (is_the p) is ∙ tie_self path_order p)

-- past the last number is none
pub no_number : (paths : List (Arc Path Global)) (n : ℕ) (p : Place) → length paths ≤ n → slice_get (places_in paths) n ≡ Some p → ⊥
no_number paths n p far at = cc (sym (slice_get_past (places_in paths) n (omega (arith, far, length-map paths (λ (a : Arc Path Global). arc_value a)))) ∙ at)

-- the place of what is lent by its number
pub place_lent : (paths : List (Arc Path Global)) (n : ℕ) (r : Option (Bor (Arc Path Global))) → ItemBy (λ (b : Bor (Arc Path Global)). b.now) paths n n r → option_map (λ (b : Bor (Arc Path Global)). arc_value b.now) r ≡ slice_get (places_in paths) n
place_lent paths n r lent =
    go r ∙ ap (option_map (λ (a : Arc Path Global). arc_value a)) (lent_at (λ (b : Bor (Arc Path Global)). b.now) paths n r lent)
    ∙ sym (slice_get-map (λ (a : Arc Path Global). arc_value a) paths n)
  where
    go : (o : Option (Bor (Arc Path Global))) → option_map (λ (b : Bor (Arc Path Global)). arc_value b.now) o ≡ option_map (λ (a : Arc Path Global). arc_value a) (option_map (λ (b : Bor (Arc Path Global)). b.now) o)
    go None = refl
    go (Some b) = refl

-- a number that is read is there
pub read_number : (xs : List ℕ) (k : ℕ) → k < length xs → slice_get xs k ≡ Some (get_or xs k 0)
read_number [] k within = absurd (omega (arith, within))
read_number (x ∷ xs) zero within = refl
read_number (x ∷ xs) (suc k) within = read_number xs k (omega (arith, within))

-- the one that is put where none was
pub first_apart : (order : List Place) (more : List (Arc Path Global)) → order ≡ [] → (path : Arc Path Global) → more ≡ path ∷ [] → AreDistinct (order ++ places_in more)
unfolding IsDistinct
first_apart qs more none path one = subst (λ qs. AreDistinct (qs ++ places_in more)) (sym none) (subst (λ ps. AreDistinct (places_in ps)) (sym one) (tt, tt))

pub first_there : {T : Type 0} (paths more : List (Arc Path Global)) (values others : List T) → places_in paths ≡ [] → (path : Arc Path Global) (x : T) (p : Place) → arc_value path ≡ p → more ≡ path ∷ [] → others ≡ x ∷ []
    → numbered_map (zip (places_in paths) values ++ zip (places_in more) others) ≡ insert empty p x
first_there {T} paths more values others none path x p at ps xs =
    ap (λ qs. numbered_map (zip qs values ++ zip (places_in more) others)) none
    ∙ ap₂ (λ ms ys. numbered_map (zip (places_in ms) ys)) ps xs
    ∙ ap (λ q. numbered_map ((q, x) ∷ [])) at
    ∙ map-push [] p x (ap (λ m. get m p) (map_of-nil {X = T} path_cmp [] refl) ∙ get-empty {X = T} path_cmp p)
    ∙ ap (λ m. insert m p x) (map_of-nil {X = T} path_cmp [] refl)

-- what lies below the length is there
pub at_number : {X : Type 0} (xs : List X) (n : ℕ) → n < length xs → (x : X) × (slice_get xs n ≡ Some x)
at_number [] n within = absurd (omega (arith, within))
at_number (y ∷ ys) zero within = (y, refl)
at_number (y ∷ ys) (suc n) within = at_number ys n (omega (arith, within))
