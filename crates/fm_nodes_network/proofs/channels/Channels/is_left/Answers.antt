use Rattle.std.proofs.Common.{ap, ◌∙◌}
use Rattle.fm_nodes_network.specs.Channel.{is_left_at}
use Rattle.fm_nodes_network.proofs.channels.Channels.is_left.Goals as goal

pub returns-in-Some : goal.returns-in-Some
returns-in-Some c = c.is_left.ensures ∙ ap is_left_at c.in-Some.ensures

pub returns-in-None : goal.returns-in-None
returns-in-None c = ap is_left_at c.in-None.ensures
