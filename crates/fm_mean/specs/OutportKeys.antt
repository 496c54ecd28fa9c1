-- The order of outports is total, and outports that compare alike are one.
-- Source: this profile.
use Rattle.std.specs.Cmp.{IsTotalOrder, nat_cmp_total}
use Rattle.std.proofs.lemmas.Cmp.{on_total, then_total}
use Rattle.std.specs.FinMap.{IsAntisymmetric}
use Rattle.std.specs.Ordering.{nat_cmp}
use Rattle.std.proofs.lemmas.Map.Lookups.{exact_pairs, exact_unsigned}
use Rattle.fm_base.specs.PathOrder.{channel_cmp}
use Rattle.fm_base.proofs.PathLaws.{channel_total, channel_exact}
use Rattle.fm_mean.specs.declared.outport.Outport.{Outport}
use Rattle.fm_mean.specs.Outports.{outport_cmp}

pub outport_total : IsTotalOrder outport_cmp
outport_total = then_total (on_total (λ (o : Outport). o.channel) channel_total) (on_total (λ (o : Outport). o.number) nat_cmp_total)

pub outport_exact : IsAntisymmetric outport_cmp
outport_exact x y e = let k = exact_pairs channel_cmp nat_cmp channel_exact exact_unsigned (x.channel, x.number) (y.channel, y.number) e in λ i. record { channel = (k i).0; number = (k i).1 }
