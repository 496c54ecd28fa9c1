use Rattle.std.proofs.Common.{ap, ◌∙◌}
use Rattle.fm_nodes_hosts.proofs.Received.{arrived_at}
use Rattle.fm_nodes_hosts.proofs.receiving.arrived.Goals as goal

pub returns-in-Some : goal.returns-in-Some
returns-in-Some c = c.first.ensures ∙ ap arrived_at c.in-Some.ensures

pub returns-in-None : goal.returns-in-None
returns-in-None c = ap arrived_at c.in-None.ensures
