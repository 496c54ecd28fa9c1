use Rattle.std.proofs.Common.{length, ap, ◌∙◌, arith}
use Rattle.fm_table.specs.Told.{stand_of}
use Rattle.fm_table.proofs.Fewness.{few_entries}
use Rattle.fm_table.proofs.shared.TableKeepsHistory.entries.Goals as goal

pub returns-clause-few : goal.returns-clause-few
returns-clause-few c =
    let a = c.args.self.now in
    let k = c.promise.ensures in
    let few = few_entries a.program a.setup.turns a.history (stand_of a).places k.played.choices k.played.kept k.played.legal k.played.some_steps k.front in
    let turns = a.setup.few_turns in
    let count = c.len.ensures ∙ ap length c.history.ensures in
    omega (arith, few, turns, count)
