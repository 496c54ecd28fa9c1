use Rattle.std.proofs.Common.{map}
use Rattle.fm_base.specs.Channels.{Words}
use Rattle.fm_link_law.specs.Channels.{pushed}
use Rattle.fm_nodes_network.proofs.Named.{adjusted_at, adjusted_absent, room_was}
use Rattle.fm_nodes_network.proofs.channels.Channels.send.Goals as goal

pub send-requires : goal.send-requires
send-requires c = room_was c.args.self.now.by_name c.args.name.now c.in-Some.channel.now c.in-Some.ensures.value c.requires

pub returns-in-Some : goal.returns-in-Some
returns-in-Some c = adjusted_at c.args.self.now.by_name (c.get_mut.follows.lender c.send.new.self) c.args.name.now c.in-Some.channel.now c.send.new.self c.in-Some.ensures.value (c.get_mut.follows.holds c.send.new.self) (pushed (map Words c.args.words)) c.send.ensures

pub returns-in-None : goal.returns-in-None
returns-in-None c = adjusted_absent c.args.self.now.by_name c.get_mut.follows.lender-at-none c.args.name.now c.get_mut.follows.holds-at-none c.in-None.ensures.value (pushed (map Words c.args.words))
