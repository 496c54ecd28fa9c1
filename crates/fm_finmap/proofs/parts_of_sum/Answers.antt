use Rattle.fm_finmap.proofs.Sums.{one_of_total, two_of_total, holder}
use Rattle.fm_finmap.proofs.parts_of_sum.Goals as goal

pub returns : goal.returns
returns g c = record {
  one = λ R o. one_of_total o;
  two = λ R o. two_of_total o;
  some = λ R o f m more. let h = holder o f m more in (h.key, h.value, h.is, h.more);
}
