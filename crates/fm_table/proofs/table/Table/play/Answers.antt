use Rattle.std.proofs.Common.{ap, sym, ◌∙◌}
use Rattle.std.specs.Prelude.{Ok}
use Rattle.std.proofs.lemmas.Bool.{eqb-true}
use Rattle.fm_table.proofs.Tables.{few_steps, no_steps, played_to, some_steps}
use Rattle.fm_table.proofs.table.Table.play.Goals as goal

pub returns-then-is_empty-clause-played : goal.returns-then-is_empty-clause-played
returns-then-is_empty-clause-played c = no_steps c.args.entry c.args.self.now (eqb-true c.args.entry.steps 0 (sym c.is_empty.ensures ∙ c.if-is_empty.true))

pub enter-requires-clause-some : goal.enter-requires-clause-some
enter-requires-clause-some c = some_steps c.args.entry.steps (sym c.is_empty.ensures ∙ c.if-is_empty.false)

pub missing-requires : goal.missing-requires
missing-requires c = few_steps c.args.self.now c.enter.new.self c.args.entry c.in_ok-done.done c.in_ok-done.ensures.made

pub returns-clause-played : goal.returns-clause-played
returns-clause-played c =
    played_to c.args.self.now c.enter.new.self c.args.entry c.in_ok-done.done (λ e. c.in_ok-done.ensures.none (ap Ok e)) c.in_ok-done.ensures.made c.missing.result c.missing.ensures.none c.missing.ensures.some
