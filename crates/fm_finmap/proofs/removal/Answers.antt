use Rattle.fm_finmap.proofs.Inserts.{remove_here, remove_there, remove_absent, insert_back, remove_back}
use Rattle.fm_finmap.proofs.removal.Goals as goal

pub returns : goal.returns
returns g c = record {
  here = λ R o. remove_here o;
  there = λ R o. remove_there o;
  absent = λ R o. remove_absent o;
  then_insert = λ R o. insert_back o;
  of_insert = λ R o. remove_back o;
}
