use Rattle.std.proofs.Common.{rules}
use Rattle.fm_machine.proofs.Going.{of_body}
use Rattle.fm_machine.proofs.advancing.run_body_in_place.Goals as goal

pub returns-in-Some-clause-ran : goal.returns-in-Some-clause-ran
returns-in-Some-clause-ran c =
    of_body c.fused.result.now c.run_many.result c.in-Some.field-0.now c.args.body.now c.run_many.new.frame c.run_many.ensures.ran c.fused.ensures (search rules)
