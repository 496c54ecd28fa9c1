use Rattle.std.proofs.Common.{arith, refl}
use Rattle.fm_token.proofs.Numbers.{stays_big}
use Rattle.fm_token.proofs.pieces.number_token.Goals as goal

pub returns-then-next-ge-LIMIT : goal.returns-then-next-ge-LIMIT
returns-then-next-ge-LIMIT c = stays_big c.digits.value _ c.digits.digit-index _ c.args.digits.now (omega arith) refl (omega arith) c.digits.invariant.0
