use Rattle.std.proofs.Common.{◌≡◌, List, Some, length, take}
use Rattle.fm_net.specs.Machine.{gathered}
use Rattle.fm_nodes_procs.specs.Asks.{AllLeft}
use Rattle.fm_nodes_procs.specs.Processes.{procs_of}
use Rattle.fm_nodes_procs.proofs.children.lefts.Given as goal

abbrev pub invariant-children : goal.invariant-children
invariant-children g l = (kids : List g.R.Runner.Proc) → gathered (g.R.Runner.language l.runner).has_ended (procs_of (g.R.Runner.seen l.runner) l.processes) l.path l.block 1 (length l.numbers) ≡ Some kids
    → AllLeft (g.R.Runner.IsLeft l.runner) (take l.number-index kids) l.all.items
