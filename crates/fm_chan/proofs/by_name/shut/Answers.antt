use Rattle.std.proofs.Common.{None, arith}
use Rattle.fm_chan.specs.Readers.{IsClosedAt}
use Rattle.fm_chan.proofs.Maps.{shut_there, freed_there, keep_room, wakes_one, noted_out, shut_absent, freed_absent, keep_room_absent, wakes_absent, noted_absent}
use Rattle.fm_chan.proofs.by_name.shut.Goals as goal

pub returns-in-Some-clause-channels : goal.returns-in-Some-clause-channels
returns-in-Some-clause-channels c = shut_there c.args.bodies.now (c.get_mut.follows.lender c.shut.new.self) c.channel.result.now c.args.port c.channel.ensures c.in-Some.body.now c.shut.new.self c.in-Some.ensures.value (c.get_mut.follows.holds c.shut.new.self) c.shut.ensures.body

pub returns-in-Some-clause-ports : goal.returns-in-Some-clause-ports
returns-in-Some-clause-ports c = freed_there c.args.bodies.now (c.get_mut.follows.lender c.shut.new.self) c.channel.result.now c.args.port c.channel.ensures c.in-Some.body.now c.shut.new.self c.in-Some.ensures.value (c.get_mut.follows.holds c.shut.new.self) _ _ c.shut.ensures.ports

pub returns-in-Some-clause-readers : goal.returns-in-Some-clause-readers
returns-in-Some-clause-readers c = wakes_one c.args.bodies.now (c.get_mut.follows.lender c.shut.new.self) c.channel.result.now c.in-Some.body.now c.shut.new.self c.in-Some.ensures.value (c.get_mut.follows.holds c.shut.new.self) IsClosedAt c.shut.result c.shut.ensures.readers

pub returns-in-Some-clause-noted : goal.returns-in-Some-clause-noted
returns-in-Some-clause-noted c = noted_out c.args.bodies.now (c.get_mut.follows.lender c.shut.new.self) c.channel.result.now c.in-Some.body.now c.shut.new.self c.in-Some.ensures.value (c.get_mut.follows.holds c.shut.new.self) c.shut.result c.shut.ensures.noted

pub returns-in-Some-clause-room : goal.returns-in-Some-clause-room
returns-in-Some-clause-room c = keep_room c.args.bodies.now (c.get_mut.follows.lender c.shut.new.self) c.channel.result.now c.in-Some.body.now c.shut.new.self c.in-Some.ensures.value (c.get_mut.follows.holds c.shut.new.self) c.shut.ensures.room

pub returns-clause-channels : goal.returns-clause-channels
returns-clause-channels c = shut_absent c.args.bodies.now c.get_mut.follows.lender-at-none c.channel.result.now c.get_mut.follows.holds-at-none c.in-None.ensures.value c.args.port c.channel.ensures

pub returns-clause-ports : goal.returns-clause-ports
returns-clause-ports c = freed_absent c.args.bodies.now c.get_mut.follows.lender-at-none c.channel.result.now c.get_mut.follows.holds-at-none c.in-None.ensures.value c.args.port c.channel.ensures _

pub returns-clause-readers : goal.returns-clause-readers
returns-clause-readers c = wakes_absent c.args.bodies.now c.get_mut.follows.lender-at-none c.channel.result.now c.get_mut.follows.holds-at-none c.in-None.ensures.value IsClosedAt None

pub returns-clause-noted : goal.returns-clause-noted
returns-clause-noted c = omega (arith, noted_absent c.args.bodies.now c.get_mut.follows.lender-at-none c.channel.result.now c.get_mut.follows.holds-at-none c.in-None.ensures.value)

pub returns-clause-room : goal.returns-clause-room
returns-clause-room c = keep_room_absent c.args.bodies.now c.get_mut.follows.lender-at-none c.channel.result.now c.get_mut.follows.holds-at-none c.in-None.ensures.value
