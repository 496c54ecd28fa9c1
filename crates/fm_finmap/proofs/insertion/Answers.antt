use Rattle.fm_finmap.proofs.Inserts.{insert_here, insert_there, insert_cases, insert_again, insert_swap, insert_same}
use Rattle.fm_finmap.proofs.insertion.Goals as goal

pub returns : goal.returns
returns g c = record {
  here = λ R o. insert_here o;
  there = λ R o. insert_there o;
  cases = λ R o. insert_cases o;
  again = λ R o. insert_again o;
  swap = λ R o. insert_swap o;
  same = λ R o. insert_same o;
}
