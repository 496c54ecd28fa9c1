use Rattle.std.proofs.Common.{◌≡◌, ◌<◌, [], length, arith, add-one, ◌∙◌}
use Rattle.std.proofs.Math.Seq.{drop-length}
use Rattle.fm_cards.proofs.Lines.{lines_at, lines_of_all}
use Rattle.fm_cards.proofs.line.first_line.Goals as goal

pub returns-then-source-i-eq10 : goal.returns-then-source-i-eq10
returns-then-source-i-eq10 c = (
  rw (c.split_at.ensures.front, c.split_at-then-source-i-eq10.ensures.back, add-one) (lines_at c.args.source.now c.bytes.i c.bytes.invariant c.bytes-test.true c.if-source-i-eq10.true),
  omega (arith, c.split_at-then-source-i-eq10.ensures.back_len),
)

pub returns : goal.returns
returns c =
    let none : c.split_at-2.result.1.now ≡ [] = c.split_at-2.ensures.back ∙ drop-length c.args.source.now in
    let some : 0 < length c.args.source.now = omega arith in
    (rw none (lines_of_all c.args.source.now (λ k p. c.bytes.invariant k (omega arith)) some), rw none some)
