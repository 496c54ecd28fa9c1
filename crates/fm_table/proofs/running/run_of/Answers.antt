use Rattle.std.proofs.Common.{◌+◌, ◌≤◌, List, length, refl, subst, sym, ◌∙◌}
use Rattle.fm_base.specs.declared.schedule.Turn.{Turn}
use Rattle.fm_table.specs.Told.{stand_of}
use Rattle.fm_table.proofs.Fewness.{few_entries}
use Rattle.fm_table.proofs.Runs.{run_by}
use Rattle.fm_table.proofs.running.run_of.Goals as goal

pub returns-clause-run : goal.returns-clause-run
returns-clause-run c = run_by c.args.table c.in_ok-ending.ending c.promise.ensures c.in_ok-ending.ensures _ (c.in_ok-history.ensures ∙ c.parts-history.ensures.history) c.parts-history.ensures.paths refl

pub returns-clause-history : goal.returns-clause-history
returns-clause-history c = c.in_ok-history.ensures ∙ c.parts-history.ensures.history

pub returns-clause-entries : goal.returns-clause-entries
returns-clause-entries c =
    let a = c.args.table in
    let k = c.promise.ensures in
    let few = few_entries a.program a.setup.turns a.history (stand_of a).places k.played.choices k.played.kept k.played.legal k.played.some_steps k.front in
    subst (λ (ts : List Turn). length ts ≤ a.setup.turns + 1) (sym (c.in_ok-history.ensures ∙ c.parts-history.ensures.history)) few
