use Rattle.fm_finmap.proofs.Adjusts.{adjust_here, adjust_there, adjust-insert, adjust_absent, adjust_again, adjust_swap, adjust_past_insert}
use Rattle.fm_finmap.proofs.adjustment.Goals as goal

pub returns : goal.returns
returns g c = record {
  here = λ R o. adjust_here o;
  there = λ R o. adjust_there o;
  present = λ R o. adjust-insert o;
  absent = λ R o. adjust_absent o;
  again = λ R o. adjust_again o;
  swap = λ R o. adjust_swap o;
  past_insert = λ R o. adjust_past_insert o;
}
