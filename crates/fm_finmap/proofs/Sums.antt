-- Sums over the values of a map: after changes, of parts, and of two functions.
use Rattle.std.proofs.Common.{◌≡◌, ◌≢◌, ℕ, ◌+◌, ◌<◌, ◌≤◌, Option, Some, None, List, [], ◌∷◌, map, length, option_map, sum_by, refl, sym, ap, ap₂, ◌∙◌, subst, arith}
use Rattle.std.proofs.lemmas.List.Sums.{sum_by-cons}
use Rattle.std.specs.FinMap.{FinMap, empty, get, insert, remove, len, values, entries, entries_sorted, entries-insert, get-entries, len-entries, len-empty}
use Rattle.std.specs.declared.cmp.Ordering.{Ordering}
use Rattle.fm_finmap.specs.Keys.{IsKeyOrder}
use Rattle.fm_finmap.specs.Changes.{Change, adjust, alter, alters, put, EachOnce}
use Rattle.fm_finmap.specs.Sums.{sum_values, total, value_or_zero, sum_before, sum_after}
use Rattle.fm_finmap.proofs.Inserts.{insert_back, remove_here, remove_absent}
use Rattle.fm_finmap.proofs.Adjusts.{adjust-alter}
use Rattle.fm_finmap.proofs.Alters.{alter-put, alters_there}
use Rattle.fm_finmap.proofs.Entries.{Part, sum_values-put, one_of_values, two_of_values, part_of_values, sum_values-alike, sum_values-le}

-- ---- plain lists of entries

no_values : {K X : Type 0} (f : X → ℕ) (es : List (K × X)) → length es ≡ 0 → sum_values f es ≡ 0
no_values f [] e = refl
no_values f (x ∷ es) e = absurd (omega (arith, e))

values-add : {K X : Type 0} (f g : X → ℕ) (es : List (K × X)) → sum_values (λ x. f x + g x) es ≡ sum_values f es + sum_values g es
values-add f g [] = omega arith
values-add f g (e ∷ es) = omega (arith, values-add f g es)

values-ones : {K X : Type 0} (es : List (K × X)) → sum_values (λ (x : X). 1) es ≡ length es
values-ones [] = refl
values-ones (e ∷ es) = omega (arith, values-ones es)

values-sum_by : {K X : Type 0} (f : X → ℕ) (es : List (K × X)) → sum_values f es ≡ sum_by f (map (λ e. e.1) es)
values-sum_by f [] = refl
values-sum_by f (e ∷ es) = omega (arith, values-sum_by f es, sum_by-cons f e.1 (map (λ e. e.1) es))

module _ {K X : Type 0} {R : K → K → Ordering} (f : X → ℕ) where
  -- the sum in std's words
  pub total-sum_by : (m : FinMap R X) → total f m ≡ sum_by f (values m)
  unfolding total
  total-sum_by m = values-sum_by f (entries m)

  pub total-add : (g : X → ℕ) (m : FinMap R X) → total (λ x. f x + g x) m ≡ total f m + total g m
  unfolding total
  total-add g m = values-add f g (entries m)

pub total-empty : {K X : Type 0} (R : K → K → Ordering) (f : X → ℕ) → total f (empty {X = X} {R = R}) ≡ 0
unfolding total
total-empty {X = X} R f = no_values f (entries (empty {X = X} {R = R})) (sym (len-entries (empty {X = X} {R = R})) ∙ len-empty R X)

pub total-ones : {K X : Type 0} {R : K → K → Ordering} (m : FinMap R X) → total (λ (x : X). 1) m ≡ len m
unfolding total
total-ones m = values-ones (entries m) ∙ sym (len-entries m)

values-zeros : {K X : Type 0} (es : List (K × X)) → sum_values (λ (x : X). 0) es ≡ 0
values-zeros [] = refl
values-zeros (e ∷ es) = omega (arith, values-zeros es)

total-zeros : {K X : Type 0} {R : K → K → Ordering} (m : FinMap R X) → total (λ (x : X). 0) m ≡ 0
unfolding total
total-zeros m = values-zeros (entries m)

-- a key whose value has a part in the sum
pub record Holder {K X : Type 0} {R : K → K → Ordering} (f : X → ℕ) (m : FinMap R X) : Type 0 where
  pub key : K
  pub value : X
  pub is : get m key ≡ Some value
  pub more : 0 < f value

module _ {K X : Type 0} {R : K → K → Ordering} (o : IsKeyOrder R) where
  module _ (f : X → ℕ) where
    -- ---- after a change

    pub total-insert : (m : FinMap R X) (k : K) (v : X) → total f (insert m k v) + value_or_zero f (get m k) ≡ total f m + f v
    unfolding total
    total-insert m k v = ap₂ (λ es z. sum_values f es + value_or_zero f z) (entries-insert o.total m k v) (get-entries m k) ∙ sum_values-put o f k v (entries m) (entries_sorted m)

    removed : (m : FinMap R X) (k : K) (v : Option X) → get m k ≡ v → total f (remove m k) + value_or_zero f v ≡ total f m
    removed m k None is = omega (arith, ap (total f) (remove_absent o m k is))
    removed m k (Some x) is = omega (arith, total-insert (remove m k) k x, ap (total f) (insert_back o m k x is), ap (value_or_zero f) (remove_here o m k))

    pub total-remove : (m : FinMap R X) (k : K) → total f (remove m k) + value_or_zero f (get m k) ≡ total f m
    total-remove m k = removed m k (get m k) refl

    pub total-put : (m : FinMap R X) (k : K) (v : Option X) → total f (put m k v) + value_or_zero f (get m k) ≡ total f m + value_or_zero f v
    total-put m k None = omega (arith, total-remove m k)
    total-put m k (Some x) = total-insert m k x

    pub total-alter : (m : FinMap R X) (k : K) (g : Option X → Option X) → total f (alter m k g) + value_or_zero f (get m k) ≡ total f m + value_or_zero f (g (get m k))
    total-alter m k g = ap (λ z. total f z + value_or_zero f (get m k)) (alter-put o m k g (g (get m k)) refl) ∙ total-put m k (g (get m k))

    pub total-adjust : (m : FinMap R X) (k : K) (g : X → X) → total f (adjust m k g) + value_or_zero f (get m k) ≡ total f m + value_or_zero f (option_map g (get m k))
    total-adjust m k g = ap (λ z. total f z + value_or_zero f (get m k)) (adjust-alter o m k g) ∙ total-alter m k (option_map g)

    pub total-alters : (ws : List (Change K X)) (m : FinMap R X) → EachOnce ws → total f (alters ws m) + sum_before f m ws ≡ total f m + sum_after f m ws
    total-alters [] m once = refl
    total-alters (w ∷ ws) m once =
        let there = alters_there o ws m w.0 once.0 in
        omega (arith, total-alters ws m once.1, total-alter (alters ws m) w.0 w.1, ap (value_or_zero f) there, ap (λ z. value_or_zero f (w.1 z)) there)

    -- ---- parts of a sum

    pub one_of_total : (m : FinMap R X) (k : K) → value_or_zero f (get m k) ≤ total f m
    unfolding total
    one_of_total m k = subst (λ z. value_or_zero f z ≤ sum_values f (entries m)) (sym (get-entries m k)) (one_of_values o f k (entries m))

    pub two_of_total : (m : FinMap R X) (k j : K) → (k ≢ j) → value_or_zero f (get m k) + value_or_zero f (get m j) ≤ total f m
    unfolding total
    two_of_total m k j n = omega (arith, two_of_values o f k j n (entries m), ap (value_or_zero f) (get-entries m k), ap (value_or_zero f) (get-entries m j))

    pub holder : (m : FinMap R X) → 0 < total f m → Holder f m
    unfolding total
    holder m more =
        let p : Part o f (entries m) = part_of_values o f (entries m) (entries_sorted m) more in
        record { key = p.key; value = p.value; is = get-entries m p.key ∙ p.is; more = p.more }

  -- ---- two sums

  pub total_alike : (f g : X → ℕ) (m : FinMap R X) → ((k : K) (x : X) → get m k ≡ Some x → f x ≡ g x) → total f m ≡ total g m
  unfolding total
  total_alike f g m alike = sum_values-alike o f g (entries m) (entries_sorted m) (λ k x is. alike k x (get-entries m k ∙ is))

  pub total-le : (f g : X → ℕ) (m : FinMap R X) → ((k : K) (x : X) → get m k ≡ Some x → f x ≤ g x) → total f m ≤ total g m
  unfolding total
  total-le f g m less = sum_values-le o f g (entries m) (entries_sorted m) (λ k x is. less k x (get-entries m k ∙ is))

  -- where all values give 0, so does the map
  pub total_zero : (f : X → ℕ) (m : FinMap R X) → ((k : K) (x : X) → get m k ≡ Some x → f x ≡ 0) → total f m ≡ 0
  total_zero f m none = omega (arith, total-le f (λ x. 0) m (λ k x is. omega (arith, none k x is)), total-zeros m)

  -- and where the map gives 0, all its values do
  pub zero_total : (f : X → ℕ) (m : FinMap R X) (k : K) (x : X) → total f m ≡ 0 → get m k ≡ Some x → f x ≡ 0
  zero_total f m k x none is = omega (arith, none, one_of_total f m k, ap (value_or_zero f) is)
