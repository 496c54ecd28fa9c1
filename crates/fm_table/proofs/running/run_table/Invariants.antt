use Rattle.std.proofs.Common.{◌≡◌, false}
use Rattle.fm_run.specs.Programs.{Follows}
use Rattle.fm_table.specs.Told.{IsIdle, told_at}
use Rattle.fm_table.proofs.Runs.{left_of}
use Rattle.fm_table.proofs.running.run_table.Given as goal

abbrev pub invariant-pieces : goal.invariant-pieces
invariant-pieces l = record {
  program : l.table.program ≡ l.fn.program.value;
  setup : l.table.setup ≡ l.fn.setup;
  alone : l.table ≡ told_at l.table.program l.table.setup l.table.history;
  follows : Follows l.table.program l.table.setup.slice l.choices l.table.history;
  idle : l.goes_on ≡ false → IsIdle l.table;
}

abbrev pub decreases-pieces : goal.decreases-pieces
decreases-pieces l = left_of l.table l.goes_on
