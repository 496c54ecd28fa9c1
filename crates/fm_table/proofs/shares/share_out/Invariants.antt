use Rattle.std.proofs.Common.{◌≡◌, ◌<◌, ℕ, [], ◌++◌, drop, get_or, length}
use Rattle.fm_mean.specs.Machines.{main_nodes}
use Rattle.fm_rules.specs.declared.program.Program.{Program}
use Rattle.fm_table.specs.Inside.{IsLive, shares_of, stand_in}
use Rattle.fm_table.specs.Planned.{mapped}
use Rattle.fm_table.proofs.shares.share_out.Given as goal

-- what the workers have, and what comes to them of those that are left, are all
abbrev pub invariant-queue : goal.invariant-queue
invariant-queue l = record {
  many : length (shares_of l.lists.items) ≡ l.setup.workers;
  shared : (p : Program) → IsLive p l.player → l.nodes ≡ main_nodes p → (w : ℕ) → w < l.setup.workers
      → get_or (shares_of l.lists.items) w [] ++ mapped p l.setup (stand_in p l.player) w (drop l.place l.player.able.numbers.items)
      ≡ get_or (shares_of l.fn.lists.items) w [] ++ mapped p l.setup (stand_in p l.player) w (drop l.from l.player.able.numbers.items);
}
