use Rattle.fm_finmap.proofs.Alters.{alter_here, alter_there, alter_same, alter_alike, alter_again, alter_swap}
use Rattle.fm_finmap.proofs.Adjusts.{adjust-alter}
use Rattle.fm_finmap.proofs.alteration.Goals as goal

pub returns : goal.returns
returns g c = record {
  here = λ R o. alter_here o;
  there = λ R o. alter_there o;
  same = λ R o. alter_same o;
  alike = λ R o. alter_alike o;
  again = λ R o. alter_again o;
  swap = λ R o. alter_swap o;
  of_values = λ R o. adjust-alter o;
}
