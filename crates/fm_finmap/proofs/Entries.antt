-- Entries in the order of their keys, by what a look-up finds among them.
use Rattle.std.proofs.Common.{◌≡◌, ◌≢◌, ℕ, zero, suc, ◌+◌, ◌<◌, ◌≤◌, Some, None, List, [], ◌∷◌, Bool, true, false, cond, T, ◌&&◌, refl, sym, ap, ap₂, ◌∙◌, arith}
use Rattle.std.specs.FinMap.Entries.{find, put, is_sorted, below_all, by_order}
use Rattle.std.specs.Ordering.{eq_by_cmp, is_eq, is_lt}
use Rattle.std.specs.declared.cmp.Ordering.{Ordering}
use Rattle.std.specs.declared.cmp.Ordering.TheVariants.{Less, Equal, Greater}
use Rattle.fm_finmap.specs.Keys.{IsKeyOrder}
use Rattle.fm_finmap.specs.Sums.{sum_values, value_or_zero}
use Rattle.fm_finmap.proofs.Keys.{tie, tie_self}

fst : (a b : Bool) → T (a && b) → T a
fst true b p = tt
fst false b p = p

snd : (a b : Bool) → T (a && b) → T b
snd true b p = p
snd false b p = absurd p

is_less : (o : Ordering) → T (is_lt o) → o ≡ Less
is_less Less p = refl
is_less Equal p = absurd p
is_less Greater p = absurd p

module _ {K X : Type 0} {R : K → K → Ordering} (o : IsKeyOrder R) where
  -- a key below all keys isn't found
  not_found : (k : K) (es : List (K × X)) → T (below_all R k es) → find R k es ≡ None
  not_found k [] h = refl
  not_found k (e ∷ es) h = ap (λ r. cond (is_eq r) (Some e.1) (find R k es)) (is_less _ (fst _ _ h)) ∙ not_found k es (snd _ _ h)

  -- nor is a key below such a key
  not_found_below : (k x : K) (es : List (K × X)) → R k x ≡ Less → T (below_all R x es) → find R k es ≡ None
  not_found_below k x [] l h = refl
  not_found_below k x (e ∷ es) l h =
      ap (λ r. cond (is_eq r) (Some e.1) (find R k es)) (o.total.trans k x e.0 l (is_less _ (fst _ _ h))) ∙ not_found_below k x es l (snd _ _ h)

  pub find_first : (e : K × X) (es : List (K × X)) → find R e.0 (e ∷ es) ≡ Some e.1
  find_first e es = ap (λ b. cond b (Some e.1) (find R e.0 es)) (tie_self o e.0)

  -- what is found behind the first entry is found from the first on
  pub find_later : (e : K × X) (es : List (K × X)) → T (is_sorted R (e ∷ es)) → (k : K) (x : X) → find R k es ≡ Some x → find R k (e ∷ es) ≡ Some x
  find_later e es h k x is = go (eq_by_cmp R k e.0) refl
    where
      go : (b : Bool) → eq_by_cmp R k e.0 ≡ b → cond b (Some e.1) (find R k es) ≡ Some x
      go true t = let none : find R k es ≡ None = ap (λ z. find R z es) (tie o k e.0 t) ∙ not_found e.0 es (fst _ _ h) in absurd (cc (none, is))
      go false t = is

  sorted_tail : (e : K × X) (es : List (K × X)) → T (is_sorted R (e ∷ es)) → T (is_sorted R es)
  sorted_tail e es h = snd _ _ h

  module _ (f : X → ℕ) where
    pub sum_values-put : (k : K) (v : X) (es : List (K × X)) → T (is_sorted R es) → sum_values f (put R k v es) + value_or_zero f (find R k es) ≡ sum_values f es + f v
    sum_values-put k v [] h = omega arith
    sum_values-put k v (e ∷ es) h =
        elim (R k e.0) as (λ r. R k e.0 ≡ r → sum_values f (by_order r ((k, v) ∷ e ∷ es) ((e.0, v) ∷ es) (e ∷ put R k v es)) + value_or_zero f (cond (is_eq r) (Some e.1) (find R k es)) ≡ sum_values f (e ∷ es) + f v) [
          | Less ↦ λ l. let none : value_or_zero f (find R k es) ≡ 0 = ap (value_or_zero f) (not_found_below k e.0 es l (fst _ _ h)) in omega arith
          | Equal ↦ λ l. omega arith
          | Greater ↦ λ l. omega (arith, sum_values-put k v es (snd _ _ h))
        ] refl

    pub one_of_values : (k : K) (es : List (K × X)) → value_or_zero f (find R k es) ≤ sum_values f es
    one_of_values k [] = omega arith
    one_of_values k (e ∷ es) = elim (eq_by_cmp R k e.0) as (λ b. value_or_zero f (cond b (Some e.1) (find R k es)) ≤ f e.1 + sum_values f es) [ true ↦ omega arith | false ↦ omega (arith, one_of_values k es) ]

    pub two_of_values : (k j : K) → (k ≢ j) → (es : List (K × X)) → value_or_zero f (find R k es) + value_or_zero f (find R j es) ≤ sum_values f es
    two_of_values k j n [] = omega arith
    two_of_values k j n (e ∷ es) = go (eq_by_cmp R k e.0) (eq_by_cmp R j e.0) (λ a b. n (tie o k e.0 a ∙ sym (tie o j e.0 b))) (two_of_values k j n es)
      where
        go : (a b : Bool) → (a ≡ true → b ≡ true → ⊥) → value_or_zero f (find R k es) + value_or_zero f (find R j es) ≤ sum_values f es
            → value_or_zero f (cond a (Some e.1) (find R k es)) + value_or_zero f (cond b (Some e.1) (find R j es)) ≤ f e.1 + sum_values f es
        go true true off h = absurd (off refl refl)
        go true false off h = omega (arith, one_of_values j es)
        go false true off h = omega (arith, one_of_values k es)
        go false false off h = omega arith

    -- a sum over 0 has a part over 0
    pub record Part (es : List (K × X)) : Type 0 where
      pub key : K
      pub value : X
      pub is : find R key es ≡ Some value
      pub more : 0 < f value

    pub part_of_values : (es : List (K × X)) → T (is_sorted R es) → 0 < sum_values f es → Part es
    part_of_values [] h more = absurd (omega (arith, more))
    part_of_values (e ∷ es) h more = go (λ rest. part_of_values es (sorted_tail e es h) rest) (f e.1) refl
      where
        later : Part es → Part (e ∷ es)
        later p = record { key = p.key; value = p.value; is = find_later e es h p.key p.value p.is; more = p.more }

        go : (0 < sum_values f es → Part es) → (n : ℕ) → f e.1 ≡ n → Part (e ∷ es)
        go behind zero is = later (behind (omega (arith, more, is)))
        go behind (suc n) is = record { key = e.0; value = e.1; is = find_first e es; more = omega (arith, is) }

  pub sum_values-alike : (f g : X → ℕ) (es : List (K × X)) → T (is_sorted R es) → ((k : K) (x : X) → find R k es ≡ Some x → f x ≡ g x) → sum_values f es ≡ sum_values g es
  sum_values-alike f g [] h alike = refl
  sum_values-alike f g (e ∷ es) h alike =
      ap₂ (λ m n. m + n) (alike e.0 e.1 (find_first e es)) (sum_values-alike f g es (sorted_tail e es h) (λ k x is. alike k x (find_later e es h k x is)))

  pub sum_values-le : (f g : X → ℕ) (es : List (K × X)) → T (is_sorted R es) → ((k : K) (x : X) → find R k es ≡ Some x → f x ≤ g x) → sum_values f es ≤ sum_values g es
  sum_values-le f g [] h less = omega arith
  sum_values-le f g (e ∷ es) h less =
      omega (arith, less e.0 e.1 (find_first e es), sum_values-le f g es (sorted_tail e es h) (λ k x is. less k x (find_later e es h k x is)))
