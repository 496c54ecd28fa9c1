use Rattle.fm_chan.specs.Events.{put_first}
use Rattle.fm_chan.proofs.Maps.{adjusted_at, adjusted_absent, noted_absent, noted_same, room_there}
use Rattle.fm_chan.proofs.by_name.put_back.Goals as goal

pub put_back-requires : goal.put_back-requires
put_back-requires c = room_there c.args.bodies.now c.args.name.now c.in-Some.body.now c.in-Some.ensures.value c.requires

pub returns-in-Some-clause-channels : goal.returns-in-Some-clause-channels
returns-in-Some-clause-channels c = adjusted_at c.args.bodies.now (c.get_mut.follows.lender c.put_back.new.self) c.args.name.now c.in-Some.body.now c.put_back.new.self c.in-Some.ensures.value (c.get_mut.follows.holds c.put_back.new.self) (put_first c.args.message) c.put_back.ensures.chan

pub returns-in-Some-clause-noted : goal.returns-in-Some-clause-noted
returns-in-Some-clause-noted c = noted_same c.args.bodies.now (c.get_mut.follows.lender c.put_back.new.self) c.args.name.now c.in-Some.body.now c.put_back.new.self c.in-Some.ensures.value (c.get_mut.follows.holds c.put_back.new.self) c.put_back.ensures.reader

pub returns-in-None-clause-channels : goal.returns-in-None-clause-channels
returns-in-None-clause-channels c = adjusted_absent c.args.bodies.now c.get_mut.follows.lender-at-none c.args.name.now c.get_mut.follows.holds-at-none c.in-None.ensures.value (put_first c.args.message)

pub returns-in-None-clause-noted : goal.returns-in-None-clause-noted
returns-in-None-clause-noted c = noted_absent c.args.bodies.now c.get_mut.follows.lender-at-none c.args.name.now c.get_mut.follows.holds-at-none c.in-None.ensures.value
