use Rattle.std.proofs.Common.{◌≡◌, false, []}
use Rattle.fm_table.specs.Told.{IsIdle}
use Rattle.fm_table.proofs.Runs.{left_of}
use Rattle.fm_table.proofs.running.run_on.Given as goal

abbrev pub invariant-pieces : goal.invariant-pieces
invariant-pieces l = record {
  program : l.table.program ≡ l.fn.begun.program;
  setup : l.table.setup ≡ l.fn.begun.setup;
  alone : l.table.out ≡ [];
  idle : l.goes_on ≡ false → IsIdle l.table;
}

abbrev pub decreases-pieces : goal.decreases-pieces
decreases-pieces l = left_of l.table l.goes_on
