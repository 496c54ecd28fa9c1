use Rattle.std.proofs.Common.{length, ap, sym, ◌∙◌}
use Rattle.std.proofs.lemmas.List.{length-map}
use Rattle.fm_nodes_network.specs.Network.{carried_of}
use Rattle.fm_nodes.specs.Nodes.{Hosted}
use Rattle.fm_nodes.proofs.nodes.Nodes.wire.Goals as goal

pub returns : goal.returns
returns c =
    let wire = c.self.inside.state.network.wire in
    c.len.ensures ∙ wire.ok.0 ∙ sym (length-map wire.items carried_of) ∙ ap (λ (h : Hosted). length h.run.hosts.wire) c.self.view_is
