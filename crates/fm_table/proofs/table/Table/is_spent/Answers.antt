use Rattle.std.proofs.Common.{ap, ◌∙◌}
use Rattle.std.specs.Prelude.{nat_lt}
use Rattle.fm_table.specs.Told.{Told, cost_of}
use Rattle.fm_table.proofs.table.Table.is_spent.Goals as goal

pub returns : goal.returns
returns c = c.is_over.ensures ∙ ap (nat_lt c.self.inside.setup.turns) c.self.invariant.standing.paid_is ∙ ap (λ (a : Told). nat_lt a.setup.turns (cost_of a)) c.self.view_is
