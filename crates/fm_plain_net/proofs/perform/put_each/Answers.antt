use Rattle.std.proofs.Common.{◌∷◌, []}
use Rattle.fm_plain_net.proofs.Loads.{kept_more, kept_none, kept_one, kept_stay, stay_on, stay_with}
use Rattle.fm_plain_net.proofs.perform.put_each.Goals as goal

pub ports-init : goal.ports-init
ports-init c = record { came = kept_none c.args.ports.now; others = λ z k. k }

pub ports-preserved : goal.ports-preserved
ports-preserved c =
    let stay = stay_with c.in-Some.port c.ports.ports c.put.new.self c.in_ok-put.ensures.here c.in_ok-put.ensures.others in
    record {
      came = kept_more c.ports.yielded (c.in-Some.port ∷ []) c.put.new.self (kept_stay c.ports.yielded c.ports.ports c.put.new.self stay c.ports.invariant.came) (kept_one c.in-Some.port c.put.new.self c.in_ok-put.ensures.here);
      others = stay_on c.args.ports.now c.ports.ports c.put.new.self c.ports.invariant.others stay;
    }
