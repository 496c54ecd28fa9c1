use Rattle.std.proofs.Common.{ap, ◌∙◌}
use Rattle.fm_table.specs.Told.{Told, stand_of}
use Rattle.fm_table.proofs.table.Table.parts.Goals as goal

pub returns-clause-history : goal.returns-clause-history
returns-clause-history c = c.into_parts.ensures.history ∙ ap (λ (a : Told). a.history) c.self.view_is

pub returns-clause-paths : goal.returns-clause-paths
returns-clause-paths c = c.into_parts.ensures.paths c.self.inside.program.value c.self.invariant.standing ∙ ap (λ (a : Told). (stand_of a).places) c.self.view_is
