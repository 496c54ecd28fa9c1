use Rattle.std.proofs.Common.{map, ap, ◌∙◌}
use Rattle.std.specs.Prelude.{slice_get}
use Rattle.std.specs.FinMap.{entries}
use Rattle.fm_base.specs.declared.path.ChanName.{ChanName}
use Rattle.fm_link_law.specs.Channels.{LinkedChan}
use Rattle.fm_nodes.specs.Nodes.{Hosted}
use Rattle.fm_nodes.proofs.nodes.Nodes.channel.Goals as goal

pub returns : goal.returns
returns c = c.name.ensures ∙ ap (λ (h : Hosted). slice_get (map (λ (e : ChanName × LinkedChan). e.0) (entries h.run.hosts.channels)) c.args.at) c.self.view_is
