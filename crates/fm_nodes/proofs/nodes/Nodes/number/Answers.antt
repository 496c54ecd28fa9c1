use Rattle.std.proofs.Common.{ap, ◌∙◌}
use Rattle.std.specs.Prelude.{option_and_then}
use Rattle.std.specs.FinMap.{get}
use Rattle.fm_link.specs.Ends.{number_of}
use Rattle.fm_link_law.specs.Channels.{LinkedChan}
use Rattle.fm_nodes.specs.Nodes.{Hosted}
use Rattle.fm_nodes.proofs.nodes.Nodes.number.Goals as goal

pub returns-in-Some : goal.returns-in-Some
returns-in-Some c =
    c.number.ensures ∙ ap (option_and_then (λ (l : LinkedChan). number_of l.outgoing c.args.k)) c.in-Some.ensures
    ∙ ap (λ (h : Hosted). option_and_then (λ (l : LinkedChan). number_of l.outgoing c.args.k) (get h.run.hosts.channels c.args.channel.now)) c.self.view_is

pub returns-in-None : goal.returns-in-None
returns-in-None c =
    ap (option_and_then (λ (l : LinkedChan). number_of l.outgoing c.args.k)) c.in-None.ensures
    ∙ ap (λ (h : Hosted). option_and_then (λ (l : LinkedChan). number_of l.outgoing c.args.k) (get h.run.hosts.channels c.args.channel.now)) c.self.view_is
