use Rattle.std.proofs.Common.{refl, rules}
use Rattle.std.proofs.lemmas.Fn.{filter_same}
use Rattle.fm_nodes_network.specs.Network.{hosts_of}
use Rattle.fm_nodes_network.proofs.Staying.{restarts}
use Rattle.fm_nodes_network.proofs.network.Network.restart.Goals as goal

pub returns : goal.returns
returns g c = restarts (g.O.Outlasts.outlasts c.args.hosts.now) (hosts_of c.args.self.now) c.args.self.now.wire.items _ refl (filter_same _ _ _ (λ x b f' k. search rules) _ _ c.retain.ensures.filtered)
