use Rattle.std.proofs.Common.{arith}
use Rattle.fm_run.proofs.Queueing.{found_at, not_at, nowhere}
use Rattle.fm_run.proofs.orders.place_of.Goals as goal

pub places-preserved : goal.places-preserved
places-preserved c = not_at c.args.numbers.now.items c.places.place c.args.number c.places.invariant (omega (arith, c.args.numbers.now.ok.0)) _ c.index.ensures c.if-index-number.false

pub returns-then-index-number : goal.returns-then-index-number
returns-then-index-number c = found_at c.args.numbers.now.items c.places.place c.args.number (omega (arith, c.args.numbers.now.ok.0)) _ c.index.ensures c.if-index-number.true

pub returns : goal.returns
returns c = nowhere c.args.numbers.now.items c.args.number (λ k low. c.places.invariant k (omega (arith, low, c.args.numbers.now.ok.0)))
