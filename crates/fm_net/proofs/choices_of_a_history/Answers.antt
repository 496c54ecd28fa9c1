use Rattle.std.proofs.Common.{refl}
use Rattle.fm_net.proofs.Histories.{first_turn, choices_more, choices_stay}
use Rattle.fm_net.proofs.choices_of_a_history.Goals as goal

pub returns : goal.returns
returns c = record {
  none = λ places. refl;
  first = first_turn;
  one_more = choices_more;
  stay = choices_stay;
}
