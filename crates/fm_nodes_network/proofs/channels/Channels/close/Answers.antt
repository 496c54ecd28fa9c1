use Rattle.std.proofs.Common.{Some, sym}
use Rattle.fm_link_law.specs.Channels.{closed}
use Rattle.fm_nodes_network.specs.Channel.{linked_of}
use Rattle.fm_nodes_network.proofs.Named.{adjusted_at, adjusted_absent, found}
use Rattle.fm_nodes_network.proofs.channels.Channels.close.Goals as goal

pub close-requires : goal.close-requires
close-requires c = c.requires (linked_of c.in-Some.channel.now) (sym (found c.args.self.now.by_name c.args.name.now (Some c.in-Some.channel.now) c.in-Some.ensures.value))

pub returns-in-Some : goal.returns-in-Some
returns-in-Some c = adjusted_at c.args.self.now.by_name (c.get_mut.follows.lender c.close.new.self) c.args.name.now c.in-Some.channel.now c.close.new.self c.in-Some.ensures.value (c.get_mut.follows.holds c.close.new.self) closed c.close.ensures

pub returns-in-None : goal.returns-in-None
returns-in-None c = adjusted_absent c.args.self.now.by_name c.get_mut.follows.lender-at-none c.args.name.now c.get_mut.follows.holds-at-none c.in-None.ensures.value closed
