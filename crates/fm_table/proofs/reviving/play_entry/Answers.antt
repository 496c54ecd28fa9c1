use Rattle.std.proofs.Common.{sym, ◌∙◌}
use Rattle.std.proofs.lemmas.Bool.{eqb-true}
use Rattle.fm_table.proofs.Tables.{some_steps}
use Rattle.fm_table.proofs.Turns.{whole_entry}
use Rattle.fm_table.proofs.reviving.play_entry.Goals as goal

pub make_steps-requires-clause-some : goal.make_steps-requires-clause-some
make_steps-requires-clause-some c = some_steps c.args.entry.steps (sym c.is_empty.ensures ∙ c.if-is_empty.false)

pub returns-then-is_whole-clause-history : goal.returns-then-is_whole-clause-history
returns-then-is_whole-clause-history c =
    let some = some_steps c.args.entry.steps (sym c.is_empty.ensures ∙ c.if-is_empty.false) in
    let all = eqb-true c.in_ok-done.done c.args.entry.steps (sym c.is_whole.ensures ∙ c.if-is_whole.true) in
    whole_entry c.args.program.now c.args.entry c.args.player.now c.make_steps.new.player c.in_ok-done.done some all c.in_ok-done.ensures.made
