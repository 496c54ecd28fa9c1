-- The laws that the comparisons of paths owe.
-- Source: this profile.
use Rattle.std.specs.Prelude.{ℕ, List, Some, ◌≡◌}
use mathlib.Core.Path.{refl}
use Rattle.std.specs.Cmp.{IsTotalOrder, IsEquivalence, IsPartialOrder, partial_order_from_agreeing_total, nat_cmp_total, nat_eq_equiv, on_equiv, and_equiv, on_total, then_total, both_tied, unsigned_ties}
use Rattle.std.specs.Cmp.Lexicographic.{lists_total, lists_equiv, lists_ties}
use Rattle.std.specs.Ordering.{nat_cmp, eq_by_cmp}
use Rattle.fm_base.specs.PathOrder.{pair_eq, pair_cmp, path_eq, path_cmp}

pair_total : IsTotalOrder pair_cmp
pair_total = then_total (on_total (λ (p : ℕ × ℕ). p.0) nat_cmp_total) (on_total (λ (p : ℕ × ℕ). p.1) nat_cmp_total)

pub path_total : IsTotalOrder path_cmp
path_total = lists_total pair_total

pair_equiv : IsEquivalence pair_eq
pair_equiv = and_equiv (on_equiv (λ (p : ℕ × ℕ). p.0) nat_eq_equiv) (on_equiv (λ (p : ℕ × ℕ). p.1) nat_eq_equiv)

pub path_equiv : IsEquivalence path_eq
path_equiv = lists_equiv pair_equiv

pair_ties : (x y : ℕ × ℕ) → pair_eq x y ≡ eq_by_cmp pair_cmp x y
pair_ties x y = both_tied _ _ (nat_cmp x.0 y.0) (nat_cmp x.1 y.1) (unsigned_ties x.0 y.0) (unsigned_ties x.1 y.1)

pub path_ties : (x y : List (ℕ × ℕ)) → path_eq x y ≡ eq_by_cmp path_cmp x y
path_ties = lists_ties pair_cmp pair_ties

pub path_po : IsPartialOrder path_eq (λ x y. Some (path_cmp x y))
path_po = partial_order_from_agreeing_total path_cmp path_total (λ x y. refl) path_ties
