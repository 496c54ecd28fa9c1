use Rattle.std.proofs.Common.{[], ◌∷◌, ap}
use Rattle.fm_net.proofs.Orders.{starts_served, starts_unserved, starts_more, starts-push, starts-replicate}
use Rattle.fm_net.proofs.starts_in_turn.Goals as goal

pub returns : goal.returns
returns g c = record {
  served = λ language s p x is need f asks r serves. starts_served language s p (record { self = x; is = is; need = need; goes = f; asks = asks; reply = r; serves = serves });
  no_step = λ language. starts_unserved language;
  append = λ language. starts_more language;
  one_more = λ language s cs p. ap (λ ps. [] ∷ ps) (starts-push language s cs p);
  repeated = λ language. starts-replicate language;
}
