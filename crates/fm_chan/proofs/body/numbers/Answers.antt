use Rattle.std.proofs.Common.{ap, sym, arith, ◌∙◌}
use Rattle.std.specs.Ordering.{nat_cmp}
use Rattle.std.specs.BTreeSet.{insert_key}
use Rattle.fm_chan.proofs.Numbers.{numbers-more}
use Rattle.fm_chan.proofs.Writers.{insert-next}
use Rattle.fm_chan.proofs.body.numbers.Goals as goal

pub numbers-preserved : goal.numbers-preserved
numbers-preserved c = (
  c.in_ok-insert.ensures.keys ∙ ap (λ ns. insert_key nat_cmp ns c.numbers.next) c.numbers.invariant.0 ∙ insert-next c.numbers.next ∙ sym (numbers-more c.numbers.next),
  omega (arith, c.numbers-test.true),
)
