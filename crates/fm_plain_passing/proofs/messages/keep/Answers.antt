use Rattle.std.proofs.Common.{length, sym, ap, ◌∙◌, ◌++◌, arith}
use Rattle.fm_mean.specs.Places.{live}
use Rattle.fm_plain_passing.proofs.MessageLaws.{keeps_one}
use Rattle.fm_plain_passing.proofs.messages.keep.Goals as goal

pub ports-preserved : goal.ports-preserved
ports-preserved c = record {
  drops = keeps_one c.ports.room.items c.put.new.room.items c.in-Some.port c.pop_front.new.self.items _ c.put.ensures.items
      (ap (λ l. live c.ports.room.items ++ live l) (sym c.in-Some.ensures.items) ∙ c.ports.invariant.drops);
  len = omega (arith, ap length c.in-Some.ensures.items);
  capacity = omega arith;
}
