use Rattle.fm_table.proofs.Tables.{idle_none, over_turns}
use Rattle.fm_table.specs.Told.{cost_of}
use Rattle.fm_table.proofs.running.ending_of.Goals as goal

pub returns-then-is_spent : goal.returns-then-is_spent
returns-then-is_spent c = let a = c.args.table.now in over_turns a.setup.turns (cost_of a) c.is_spent.result c.is_spent.ensures c.if-is_spent.true

pub returns : goal.returns
returns c =
    let a = c.args.table.now in
    let none = idle_none a c.is_spent.result c.requires.idle c.requires.alone c.is_spent.ensures c.if-is_spent.false in
    (none.0, none.1, c.in_ok-outcome.ensures)
