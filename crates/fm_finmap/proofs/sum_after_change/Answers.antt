use Rattle.fm_finmap.proofs.Sums.{total-insert, total-remove, total-adjust, total-alter, total-alters}
use Rattle.fm_finmap.proofs.sum_after_change.Goals as goal

pub returns : goal.returns
returns g c = record {
  inserted = λ R o. total-insert o;
  removed = λ R o. total-remove o;
  adjusted = λ R o. total-adjust o;
  altered = λ R o. total-alter o;
  altered_by_list = λ R o. total-alters o;
}
