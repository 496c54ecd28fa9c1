use Rattle.std.proofs.Common.{ℕ, ap, sym, ◌∙◌}
use Rattle.std.specs.Prelude.{Option}
use Rattle.fm_run.specs.Orders.{chosen}
use Rattle.fm_table.proofs.Runs.{choice_there, first_chosen, past_choices}
use Rattle.fm_table.proofs.running.choice_at.Goals as goal

pub returns-in-None : goal.returns-in-None
returns-in-None c = λ able.
    first_chosen able ∙ sym (ap (λ (o : Option ℕ). chosen o able) (past_choices c.args.choices.now c.args.place c.in-None.ensures.lookup.3))

pub returns-in-Some : goal.returns-in-Some
returns-in-Some c = λ able.
    let at = c.in-Some.ensures.lookup.3 in
    sym (ap (λ (o : Option ℕ). chosen o able) (choice_there c.args.choices.now c.args.place c.in-Some.choice.now at.0 at.1))
