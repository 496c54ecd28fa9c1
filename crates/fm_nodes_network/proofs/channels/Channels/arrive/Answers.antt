use Rattle.std.proofs.lemmas.Result.{on_ok_weaker, on_err_weaker}
use Rattle.fm_link_law.specs.Channels.{packet_comes}
use Rattle.fm_nodes_network.proofs.Named.{adjusted_at, unchanged_at, adjusted_absent}
use Rattle.fm_nodes_network.proofs.channels.Channels.arrive.Goals as goal

pub returns-in-Some-clause-ok : goal.returns-in-Some-clause-ok
returns-in-Some-clause-ok c = on_ok_weaker c.arrive.result (adjusted_at c.args.self.now.by_name (c.get_mut.follows.lender c.arrive.new.self) c.args.name.now c.in-Some.channel.now c.arrive.new.self c.in-Some.ensures.value (c.get_mut.follows.holds c.arrive.new.self) (packet_comes c.args.packet)) c.arrive.ensures.ok

pub returns-in-Some-clause-err : goal.returns-in-Some-clause-err
returns-in-Some-clause-err c = on_err_weaker c.arrive.result (unchanged_at c.args.self.now.by_name (c.get_mut.follows.lender c.arrive.new.self) c.args.name.now c.in-Some.channel.now c.arrive.new.self c.in-Some.ensures.value (c.get_mut.follows.holds c.arrive.new.self)) c.arrive.ensures.err

pub returns-in-None-clause-ok : goal.returns-in-None-clause-ok
returns-in-None-clause-ok c = adjusted_absent c.args.self.now.by_name c.get_mut.follows.lender-at-none c.args.name.now c.get_mut.follows.holds-at-none c.in-None.ensures.value (packet_comes c.args.packet)
