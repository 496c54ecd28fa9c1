use Rattle.std.proofs.Common.{◌≡◌, ◌+◌, ◌<◌, ℕ, length, true}
use Rattle.std.specs.FinMap.{get}
use Rattle.fm_net.specs.Machine.{child}
use Rattle.fm_nodes_procs.specs.Children.{AreNumbered, is_over}
use Rattle.fm_nodes_procs.specs.Processes.{order_of, procs_of}
use Rattle.fm_nodes_procs.proofs.children.ended_children.Given as goal

abbrev pub invariant-children : goal.invariant-children
invariant-children g l = record {
  count : length l.numbers.items ≡ l.place;
  numbers : AreNumbered (order_of l.processes) l.path l.block 1 l.numbers.items;
  over : (k : ℕ) → k < l.place → is_over (g.R.Runner.language l.runner).has_ended (get (procs_of (g.R.Runner.seen l.runner) l.processes) (child l.path l.block (k + 1))) ≡ true;
}
