use Rattle.fm_finmap.proofs.Alters.{alters-append, alters_here, alters_there, alters_past, alters_swap}
use Rattle.fm_finmap.proofs.alterations.Goals as goal

pub returns : goal.returns
returns g c = record {
  in_turn = λ R o. alters-append o;
  here = λ R o. alters_here o;
  there = λ R o. alters_there o;
  past = λ R o. alters_past o;
  swap = λ R o. alters_swap o;
}
