use Rattle.std.proofs.Common.{subst}
use Rattle.fm_nodes.specs.Nodes.{IsHosted}
use Rattle.fm_nodes.proofs.nodes.Nodes.is_played.Goals as goal

pub returns : goal.returns
returns c = subst IsHosted c.self.view_is c.self.invariant
