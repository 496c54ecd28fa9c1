use Rattle.std.proofs.Common.{◌-◌, None, ◌∙◌}
use Rattle.fm_nodes_network.specs.Channel.{linked_of}
use Rattle.fm_nodes_network.proofs.Leaving.{left_here}
use Rattle.fm_nodes_network.proofs.channel.Channel.is_left.Goals as goal

pub returns-in-Some : goal.returns-in-Some
returns-in-Some c =
    let l = linked_of c.args.self.now in
    left_here l.incoming.waiting l.outgoing.waiting (l.incoming.arrived - l.outgoing.acknowledged) _ c.in-Some.ensures

pub returns-in-None : goal.returns-in-None
returns-in-None c =
    let l = linked_of c.args.self.now in
    c.is_under_way.ensures ∙ left_here l.incoming.waiting l.outgoing.waiting (l.incoming.arrived - l.outgoing.acknowledged) None c.in-None.ensures
