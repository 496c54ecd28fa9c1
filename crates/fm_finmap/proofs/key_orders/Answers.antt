use Rattle.fm_finmap.proofs.Keys.{nat_order, nat_list_order, order_on, decide}
use Rattle.fm_finmap.proofs.key_orders.Goals as goal

pub returns : goal.returns
returns g c = record {
  numbers = nat_order;
  number_lists = nat_list_order;
  by_number = λ R o number apart. order_on o number apart;
  decide = λ R o. decide o;
}
