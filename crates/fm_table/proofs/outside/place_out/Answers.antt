use Rattle.std.proofs.Common.{ap, ◌∙◌, arith}
use Rattle.std.specs.Prelude.{Some}
use Rattle.fm_table.specs.Inside.{outs_of}
use Rattle.fm_table.specs.Told.{numbers_out}
use Rattle.fm_table.proofs.Outs.{as_many, not_there, nowhere_out, number_at}
use Rattle.fm_table.proofs.outside.place_out.Goals as goal

pub out-init : goal.out-init
out-init c = λ i low. absurd (omega (arith, low))

pub out-preserved : goal.out-preserved
out-preserved c =
    not_there (numbers_out (outs_of c.args.out.now)) c.out.place c.args.number _ c.out.invariant (number_at c.args.out.now c.out.place c.index-out-place.result (omega arith)) c.if-out-place.false

pub returns-then-out-place : goal.returns-then-out-place
returns-then-out-place c = (number_at c.args.out.now c.out.place c.index-out-place.result (omega arith) ∙ ap Some c.if-out-place.true, c.out.invariant)

pub returns : goal.returns
returns c = nowhere_out (outs_of c.args.out.now) c.args.number c.out.place (omega (arith, as_many c.args.out.now)) c.out.invariant
