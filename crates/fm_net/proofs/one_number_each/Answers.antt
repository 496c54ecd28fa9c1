use Rattle.fm_net.proofs.Orders.{everybody, all_stand, one_number_each}
use Rattle.fm_net.proofs.one_number_each.Goals as goal

pub returns : goal.returns
returns g c = record {
  everybody = λ language. everybody language;
  stands = λ language. all_stand language;
  once = λ language. one_number_each language;
}
