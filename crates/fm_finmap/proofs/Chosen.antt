-- The rows of which a test holds, in path order.
use Rattle.std.proofs.Common.{◌≡◌, Option, Some, None, Bool, true, false, cond, T, ◌&&◌, List, [], ◌∷◌, map, refl, sym, ap, ◌∙◌}
use Rattle.std.specs.Prelude.{filter}
use Rattle.std.specs.List.{AllByRecursion, IsDistinct}
use Rattle.std.specs.List.Sorted.{IsStrictlySortedBy}
use Rattle.std.specs.Ordering.{eq_by_cmp, is_lt}
use Rattle.std.specs.FinMap.{entries, entries_sorted, find, get-entries, is_sorted}
use Rattle.std.specs.FinMap.Entries.{below_all}
use Rattle.std.specs.declared.cmp.Ordering.{Ordering}
use Rattle.std.specs.declared.cmp.Ordering.TheVariants.{Less, Equal, Greater}
use Rattle.std.proofs.lemmas.Map.Entries.{option_filter}
use Rattle.std.proofs.lemmas.Map.Keys.{IsDistinct-from_sorted}
use Rattle.fm_base.specs.PathOrder.{path_cmp}
use Rattle.fm_finmap.specs.Keys.{IsKeyOrder}
use Rattle.fm_finmap.specs.Map.{map_of}
use Rattle.fm_finmap.specs.Rows.{Place, AreDistinct, numbered_map, places}
use Rattle.fm_finmap.proofs.Keys.{path_order, same, tie}
use Rattle.fm_finmap.proofs.Maps.{entries-map_of}
use Rattle.fm_finmap.proofs.Rows.{get_entry}

first_so : (a b : Bool) → T (a && b) → T a
first_so true b p = tt
first_so false b p = p

second_so : (a b : Bool) → T (a && b) → T b
second_so true b p = p
second_so false b p = absurd p

is_less : (o : Ordering) → T (is_lt o) → o ≡ Less
is_less Less p = refl
is_less Equal p = absurd p
is_less Greater p = absurd p

module _ {K X : Type 0} {R : K → K → Ordering} (o : IsKeyOrder R) where
  -- a key that no entry has
  apart : (k : K) (es : List (K × X)) → AllByRecursion (λ y. eq_by_cmp R k y ≡ false) (map (λ (e : K × X). e.0) es) → find R k es ≡ None
  apart k [] all = refl
  apart k (e ∷ es) all = ap (λ b. cond b (Some e.1) (find R k es)) all.0 ∙ apart k es all.1

  below : (k : K) (es : List (K × X)) → T (below_all R k es) → AllByRecursion (λ y. R k y ≡ Less) (map (λ (e : K × X). e.0) es)
  below k [] h = tt
  below k (e ∷ es) h = (is_less _ (first_so _ _ h), below k es (second_so _ _ h))

  rising : (es : List (K × X)) → T (is_sorted R es) → IsStrictlySortedBy R (map (λ (e : K × X). e.0) es)
  unfolding IsStrictlySortedBy
  rising [] h = tt
  rising (e ∷ es) h = (below e.0 es (first_so _ _ h), rising es (second_so _ _ h))

  module _ (keep : K × X → Bool) where
    none_left : (q : K) (es : List (K × X)) → find R q es ≡ None → find R q (filter keep es) ≡ None
    none_left q [] none = refl
    none_left q (e ∷ es) none = go (eq_by_cmp R q e.0) (keep e) refl none (none_left q es)
      where
        go : (ties kept : Bool) → eq_by_cmp R q e.0 ≡ ties → cond ties (Some e.1) (find R q es) ≡ None → (find R q es ≡ None → find R q (filter keep es) ≡ None)
            → find R q (cond kept (e ∷ filter keep es) (filter keep es)) ≡ None
        go true kept is none rest = absurd (cc none)
        go false true is none rest = ap (λ b. cond b (Some e.1) (find R q (filter keep es))) is ∙ rest none
        go false false is none rest = rest none

    -- what is found among those that are left was found, and passes the test
    found_left : (q : K) (es : List (K × X)) → IsDistinct (eq_by_cmp R) (map (λ (e : K × X). e.0) es) → find R q (filter keep es) ≡ option_filter (λ x. keep (q, x)) (find R q es)
    unfolding IsDistinct
    found_left q [] once = refl
    found_left q (e ∷ es) once = go (eq_by_cmp R q e.0) (keep e) refl refl (found_left q es once.1)
      where
        go : (ties kept : Bool) → eq_by_cmp R q e.0 ≡ ties → keep e ≡ kept → find R q (filter keep es) ≡ option_filter (λ x. keep (q, x)) (find R q es)
            → find R q (cond kept (e ∷ filter keep es) (filter keep es)) ≡ option_filter (λ x. keep (q, x)) (cond ties (Some e.1) (find R q es))
        go false true is kept rest = ap (λ b. cond b (Some e.1) (find R q (filter keep es))) is ∙ rest
        go false false is kept rest = rest
        go true true is kept rest =
            ap (λ b. cond b (Some e.1) (find R q (filter keep es))) is ∙ sym (ap (λ (b : Bool). cond b (Some e.1) None) (ap (λ (k : K). keep (k, e.1)) (tie o q e.0 is) ∙ kept))
        go true false is kept rest =
            none_left q es (ap (λ (k : K). find R k es) (tie o q e.0 is) ∙ apart e.0 es once.0)
            ∙ sym (ap (λ (b : Bool). cond b (Some e.1) None) (ap (λ (k : K). keep (k, e.1)) (tie o q e.0 is) ∙ kept))

    all_left : (P : K → Type 0) (es : List (K × X)) → AllByRecursion P (map (λ (e : K × X). e.0) es) → AllByRecursion P (map (λ (e : K × X). e.0) (filter keep es))
    all_left P [] all = tt
    all_left P (e ∷ es) all = go (keep e) (all_left P es all.1)
      where
        go : (kept : Bool) → AllByRecursion P (map (λ (e : K × X). e.0) (filter keep es)) → AllByRecursion P (map (λ (e : K × X). e.0) (cond kept (e ∷ filter keep es) (filter keep es)))
        go true rest = (all.0, rest)
        go false rest = rest

    rising_left : (es : List (K × X)) → IsStrictlySortedBy R (map (λ (e : K × X). e.0) es) → IsStrictlySortedBy R (map (λ (e : K × X). e.0) (filter keep es))
    unfolding IsStrictlySortedBy
    rising_left [] rises = tt
    rising_left (e ∷ es) rises = go (keep e) (rising_left es rises.1)
      where
        go : (kept : Bool) → IsStrictlySortedBy R (map (λ (e : K × X). e.0) (filter keep es)) → IsStrictlySortedBy R (map (λ (e : K × X). e.0) (cond kept (e ∷ filter keep es) (filter keep es)))
        go true rest = (all_left (λ y. R e.0 y ≡ Less) es rises.0, rest)
        go false rest = rest

    pub distinct_left : (es : List (K × X)) → IsDistinct (eq_by_cmp R) (map (λ (e : K × X). e.0) es) → IsDistinct (eq_by_cmp R) (map (λ (e : K × X). e.0) (filter keep es))
    unfolding IsDistinct
    distinct_left [] once = tt
    distinct_left (e ∷ es) once = go (keep e) (distinct_left es once.1)
      where
        go : (kept : Bool) → IsDistinct (eq_by_cmp R) (map (λ (e : K × X). e.0) (filter keep es)) → IsDistinct (eq_by_cmp R) (map (λ (e : K × X). e.0) (cond kept (e ∷ filter keep es) (filter keep es)))
        go true rest = (all_left (λ y. eq_by_cmp R e.0 y ≡ false) es once.0, rest)
        go false rest = rest

-- the rows that are left, in path order, are those of all rows in path order that are left
pub chosen_entries : {T : Type 0} (keep : Place × T → Bool) (rows : List (Place × T)) → AreDistinct (places rows) → entries (numbered_map (filter keep rows)) ≡ filter keep (entries (numbered_map rows))
chosen_entries {T} keep rows once =
    let m = numbered_map rows in
    let es : List (Place × T) = entries m in
    let rises = rising path_order es (entries_sorted m) in
    let left : numbered_map (filter keep rows) ≡ numbered_map (filter keep es) = same path_order _ _ (λ q.
    get_entry path_order (filter keep rows) q ∙ found_left path_order keep q rows once
    ∙ ap (option_filter (λ (x : T). keep (q, x))) (sym (get_entry path_order rows q) ∙ get-entries m q)
    ∙ sym (found_left path_order keep q es (IsDistinct-from_sorted path_cmp (places es) rises)) ∙ sym (get_entry path_order (filter keep es) q)) in
    ap entries left ∙ sym (entries-map_of path_order (filter keep es) (filter keep es) refl (rising_left path_order keep es rises))
