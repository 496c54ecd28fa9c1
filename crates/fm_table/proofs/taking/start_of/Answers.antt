use Rattle.std.proofs.Common.{Some, ap, ◌∙◌}
use Rattle.fm_table.proofs.taking.start_of.Goals as goal

pub returns-clause-body : goal.returns-clause-body
returns-clause-body c = λ q y at is. ap Some (c.in_ok-start.ensures.ok ∙ c.in_ok-copy_body.ensures) ∙ c.in-Some.ensures q y at is
