use Rattle.std.proofs.Common.{◌≡◌, length}
use Rattle.fm_nodes_trees.specs.Drops.{drops_in}
use Rattle.fm_nodes_trees.proofs.drops.Drops.next.Given as goal

-- no port is out yet
abbrev pub invariant-lists : goal.invariant-lists
invariant-lists l = drops_in l.program l.self ≡ drops_in l.program l.fn.self

abbrev pub decreases-lists : goal.decreases-lists
decreases-lists l = length l.self.rest.items
