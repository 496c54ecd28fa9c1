use Rattle.std.proofs.Common.{◌≡◌, ◌<◌, ℕ, Some, slice_get}
use Rattle.fm_nodes_procs.specs.Processes.{order_of}
use Rattle.fm_nodes_procs.proofs.processes.Processes.find.Given as goal

abbrev pub invariant-paths : goal.invariant-paths
invariant-paths g l = (k : ℕ) → k < l.number → slice_get (order_of l.self) k ≡ Some l.path → ⊥
