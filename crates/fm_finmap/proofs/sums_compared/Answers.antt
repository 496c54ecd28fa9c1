use Rattle.fm_finmap.proofs.Sums.{total-empty, total_zero, zero_total, total_alike, total-le, total-add, total-ones}
use Rattle.fm_finmap.proofs.sums_compared.Goals as goal

pub returns : goal.returns
returns g c = record {
  nothing = λ R f. total-empty R f;
  zeros = λ R o. total_zero o;
  no_part = λ R o. zero_total o;
  alike = λ R o. total_alike o;
  at_most = λ R o. total-le o;
  added = λ R f g m. total-add f g m;
  counted = λ R m. total-ones m;
}
