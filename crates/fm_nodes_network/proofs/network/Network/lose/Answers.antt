use Rattle.std.proofs.Common.{◌<◌, length, refl, subst, arith}
use Rattle.fm_nodes_network.specs.Network.{carried_of, hosts_of}
use Rattle.fm_nodes_network.proofs.Losing.{loses}
use Rattle.fm_nodes_network.proofs.network.Network.lose.Goals as goal

pub returns-clause-loses : goal.returns-clause-loses
returns-clause-loses c = λ e. loses carried_of (hosts_of c.args.self.now) c.args.self.now.wire.items _ c.args.place refl (subst (λ xs. c.args.place < length xs) c.as_slice-things.ensures.value (omega (arith, c.if-place-things.false))) c.remove.ensures.items
