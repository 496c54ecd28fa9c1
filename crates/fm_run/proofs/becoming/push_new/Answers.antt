use Rattle.std.proofs.Common.{inl, arith}
use Rattle.fm_run.proofs.Taking.{contains_more, same_or_below}
use Rattle.fm_run.proofs.becoming.push_new.Goals as goal

pub new-init : goal.new-init
new-init c = record { kept = λ n k. k; new = λ n low high. absurd (omega (arith, low, high)) }

pub new-preserved : goal.new-preserved
new-preserved c = record {
  kept = λ n k. contains_more c.new.numbers.items c.push.new.self.items c.in-Ok.number n c.in_ok-push-in-Ok.ensures.items (inl (c.new.invariant.kept n k));
  new = λ n low high. contains_more c.new.numbers.items c.push.new.self.items c.in-Ok.number n c.in_ok-push-in-Ok.ensures.items (same_or_below n c.new.number c.in-Ok.number c.in-Ok.ensures.1 high (λ below. c.new.invariant.new n low below));
}
