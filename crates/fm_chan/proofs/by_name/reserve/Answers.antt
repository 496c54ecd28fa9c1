use Rattle.std.proofs.Common.{None}
use Rattle.std.proofs.lemmas.Result.{on_ok_weaker}
use Rattle.fm_chan.specs.Readers.{IsReadyAt}
use Rattle.fm_chan.proofs.Maps.{unchanged_at, room_is, keep_room, wakes_one, noted_same, same_chans, room_absent, keep_room_absent, wakes_absent, noted_absent}
use Rattle.fm_chan.proofs.Waits.{nobody_wakes}
use Rattle.fm_chan.proofs.by_name.reserve.Goals as goal

pub returns-in-Some-clause-channels : goal.returns-in-Some-clause-channels
returns-in-Some-clause-channels c = unchanged_at c.args.bodies.now (c.get_mut.follows.lender c.reserve.new.self) c.args.name.now c.in-Some.body.now c.reserve.new.self c.in-Some.ensures.value (c.get_mut.follows.holds c.reserve.new.self) c.reserve.ensures.chan

pub returns-in-Some-clause-readers : goal.returns-in-Some-clause-readers
returns-in-Some-clause-readers c = wakes_one c.args.bodies.now (c.get_mut.follows.lender c.reserve.new.self) c.args.name.now c.in-Some.body.now c.reserve.new.self c.in-Some.ensures.value (c.get_mut.follows.holds c.reserve.new.self) IsReadyAt None (nobody_wakes c.in-Some.body.now c.reserve.new.self IsReadyAt None c.reserve.ensures.chan c.reserve.ensures.reader)

pub returns-in-Some-clause-noted : goal.returns-in-Some-clause-noted
returns-in-Some-clause-noted c = noted_same c.args.bodies.now (c.get_mut.follows.lender c.reserve.new.self) c.args.name.now c.in-Some.body.now c.reserve.new.self c.in-Some.ensures.value (c.get_mut.follows.holds c.reserve.new.self) c.reserve.ensures.reader

pub returns-in-Some-clause-ok : goal.returns-in-Some-clause-ok
returns-in-Some-clause-ok c = on_ok_weaker c.reserve.result (room_is c.args.bodies.now (c.get_mut.follows.lender c.reserve.new.self) c.args.name.now c.in-Some.body.now c.reserve.new.self c.in-Some.ensures.value (c.get_mut.follows.holds c.reserve.new.self)) c.reserve.ensures.ok

pub returns-in-Some-clause-room : goal.returns-in-Some-clause-room
returns-in-Some-clause-room c = keep_room c.args.bodies.now (c.get_mut.follows.lender c.reserve.new.self) c.args.name.now c.in-Some.body.now c.reserve.new.self c.in-Some.ensures.value (c.get_mut.follows.holds c.reserve.new.self) c.reserve.ensures.room

pub returns-in-None-clause-channels : goal.returns-in-None-clause-channels
returns-in-None-clause-channels c = same_chans c.args.bodies.now c.get_mut.follows.lender-at-none c.args.name.now c.get_mut.follows.holds-at-none c.in-None.ensures.value

pub returns-in-None-clause-readers : goal.returns-in-None-clause-readers
returns-in-None-clause-readers c = wakes_absent c.args.bodies.now c.get_mut.follows.lender-at-none c.args.name.now c.get_mut.follows.holds-at-none c.in-None.ensures.value IsReadyAt None

pub returns-in-None-clause-noted : goal.returns-in-None-clause-noted
returns-in-None-clause-noted c = noted_absent c.args.bodies.now c.get_mut.follows.lender-at-none c.args.name.now c.get_mut.follows.holds-at-none c.in-None.ensures.value

pub returns-in-None-clause-ok : goal.returns-in-None-clause-ok
returns-in-None-clause-ok c = room_absent c.args.bodies.now c.get_mut.follows.lender-at-none c.args.name.now c.get_mut.follows.holds-at-none c.in-None.ensures.value

pub returns-in-None-clause-room : goal.returns-in-None-clause-room
returns-in-None-clause-room c = keep_room_absent c.args.bodies.now c.get_mut.follows.lender-at-none c.args.name.now c.get_mut.follows.holds-at-none c.in-None.ensures.value
