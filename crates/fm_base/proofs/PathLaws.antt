-- The orders of paths and of channels are total, and what compares alike is one.
use Rattle.std.proofs.Common.{ℕ}
use Rattle.std.specs.Cmp.{IsTotalOrder, nat_cmp_total}
use Rattle.std.specs.Cmp.Lexicographic.{lists_total}
use Rattle.std.proofs.lemmas.Cmp.{on_total, then_total}
use Rattle.std.specs.FinMap.{IsAntisymmetric, slice_cmp-IsAntisymmetric}
use Rattle.std.specs.Ordering.{nat_cmp}
use Rattle.std.proofs.lemmas.Map.Lookups.{exact_pairs, exact_unsigned}
use Rattle.fm_base.specs.declared.path.ChanName.{ChanName}
use Rattle.fm_base.specs.PathOrder.{pair_cmp, path_cmp, channel_cmp}

pub pair_total : IsTotalOrder pair_cmp
pair_total = then_total (on_total (λ (p : ℕ × ℕ). p.0) nat_cmp_total) (on_total (λ (p : ℕ × ℕ). p.1) nat_cmp_total)

pub path_total : IsTotalOrder path_cmp
path_total = lists_total pair_total

pub pair_exact : IsAntisymmetric pair_cmp
pair_exact = exact_pairs nat_cmp nat_cmp exact_unsigned exact_unsigned

pub path_exact : IsAntisymmetric path_cmp
path_exact = slice_cmp-IsAntisymmetric pair_exact

pub channel_total : IsTotalOrder channel_cmp
channel_total = then_total (on_total (λ (c : ChanName). c.maker) path_total) (on_total (λ (c : ChanName). c.number) nat_cmp_total)

pub channel_exact : IsAntisymmetric channel_cmp
channel_exact x y e = let k = exact_pairs path_cmp nat_cmp path_exact exact_unsigned (x.maker, x.number) (y.maker, y.number) e in λ i. record { maker = (k i).0; number = (k i).1 }
