use Rattle.std.proofs.Common.{◌<◌, length, subst}
use Rattle.std.specs.Prelude.{◌↔◌, IsSome}
use Rattle.fm_nodes.specs.Nodes.{Hosted}
use Rattle.fm_nodes.proofs.nodes.Nodes.path.Goals as goal

pub returns : goal.returns
returns c = subst (λ (h : Hosted). IsSome c.path_at.result ↔ (c.args.place < length h.run.order)) c.self.view_is c.path_at.ensures
