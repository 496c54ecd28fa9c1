use Rattle.std.proofs.lemmas.Result.{on_ok_weaker}
use Rattle.fm_nodes_network.proofs.Named.{unchanged_at, room_is, room_absent}
use Rattle.fm_nodes_network.proofs.channels.Channels.reserve.Goals as goal

pub returns-in-Some-clause-same : goal.returns-in-Some-clause-same
returns-in-Some-clause-same c = unchanged_at c.args.self.now.by_name (c.get_mut.follows.lender c.reserve.new.self) c.args.name.now c.in-Some.channel.now c.reserve.new.self c.in-Some.ensures.value (c.get_mut.follows.holds c.reserve.new.self) c.reserve.ensures.same

pub returns-in-Some-clause-ok : goal.returns-in-Some-clause-ok
returns-in-Some-clause-ok c = on_ok_weaker c.reserve.result (room_is c.args.self.now.by_name (c.get_mut.follows.lender c.reserve.new.self) c.args.name.now c.in-Some.channel.now c.reserve.new.self c.in-Some.ensures.value (c.get_mut.follows.holds c.reserve.new.self)) c.reserve.ensures.ok

pub returns-in-None-clause-ok : goal.returns-in-None-clause-ok
returns-in-None-clause-ok c = room_absent c.args.self.now.by_name c.get_mut.follows.lender-at-none c.args.name.now c.get_mut.follows.holds-at-none c.in-None.ensures.value
