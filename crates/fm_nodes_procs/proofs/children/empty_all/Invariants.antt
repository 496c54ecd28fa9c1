use Rattle.std.proofs.Common.{◌≡◌, ℕ, length, vec_len}
use Rattle.fm_finmap.specs.Changes.{alters}
use Rattle.fm_net.specs.Machine.{Place, child_changes}
use Rattle.fm_nodes_procs.specs.Children.{AreNumbered}
use Rattle.fm_nodes_procs.specs.Processes.{HasRoom, order_of, procs_of}
use Rattle.fm_nodes_procs.proofs.children.empty_all.Given as goal

abbrev pub invariant-children : goal.invariant-children
invariant-children g l = record {
  order : order_of l.processes ≡ order_of l.initial.processes;
  room : (count : ℕ) → HasRoom l.initial.processes count → HasRoom l.processes count;
  procs : (p : Place) (b : ℕ) → AreNumbered (order_of l.initial.processes) p b 1 l.initial.numbers.items
      → AreNumbered (order_of l.initial.processes) p b 1 l.numbers.items
      × (alters (child_changes (g.R.Runner.language l.runner).emptied p b 1 (length l.numbers.items)) (procs_of (g.R.Runner.seen l.runner) l.processes)
      ≡ alters (child_changes (g.R.Runner.language l.runner).emptied p b 1 (length l.initial.numbers.items)) (procs_of (g.R.Runner.seen l.runner) l.initial.processes));
}

abbrev pub decreases-children : goal.decreases-children
decreases-children g l = vec_len l.numbers
