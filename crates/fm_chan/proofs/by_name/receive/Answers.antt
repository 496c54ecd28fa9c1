use Rattle.std.proofs.Common.{Some, None, ap, sym, ◌∙◌}
use Rattle.fm_base.specs.Channels.{Pop, changed}
use Rattle.fm_chan.specs.Kept.{chan_of}
use Rattle.fm_chan.specs.Readers.{IsReadyAt}
use Rattle.fm_chan.specs.Received.{got_at, brings}
use Rattle.fm_chan.proofs.Maps.{chan_found, adjusted_at, unchanged_at, keep_room, room_is, wakes_one, noted_same, adjusted_absent, same_chans, keep_room_absent, wakes_absent, noted_absent}
use Rattle.fm_chan.proofs.Receiving.{nothing_taken}
use Rattle.fm_chan.proofs.Waits.{receive_wakes}
use Rattle.fm_chan.proofs.by_name.receive.Goals as goal

pub returns-in-Some-clause-got : goal.returns-in-Some-clause-got
returns-in-Some-clause-got g c = c.receive.ensures.got ∙ ap (got_at (g.L.Limits.most c.args.limits.now)) (sym (chan_found c.args.bodies.now c.args.name.now (Some c.in-Some.body.now) c.in-Some.ensures.value))

pub returns-in-Some-clause-channels : goal.returns-in-Some-clause-channels
returns-in-Some-clause-channels g c = adjusted_at c.args.bodies.now (c.get_mut.follows.lender c.receive.new.self) c.args.name.now c.in-Some.body.now c.receive.new.self c.in-Some.ensures.value (c.get_mut.follows.holds c.receive.new.self) (changed (Pop (g.L.Limits.most c.args.limits.now))) c.receive.ensures.rest

pub returns-in-Some-clause-unchanged : goal.returns-in-Some-clause-unchanged
returns-in-Some-clause-unchanged g c = λ none. unchanged_at c.args.bodies.now (c.get_mut.follows.lender c.receive.new.self) c.args.name.now c.in-Some.body.now c.receive.new.self c.in-Some.ensures.value (c.get_mut.follows.holds c.receive.new.self) (c.receive.ensures.rest ∙ nothing_taken (g.L.Limits.most c.args.limits.now) (chan_of c.in-Some.body.now) (sym (ap brings c.receive.ensures.got) ∙ none))

pub returns-in-Some-clause-readers : goal.returns-in-Some-clause-readers
returns-in-Some-clause-readers g c = wakes_one c.args.bodies.now (c.get_mut.follows.lender c.receive.new.self) c.args.name.now c.in-Some.body.now c.receive.new.self c.in-Some.ensures.value (c.get_mut.follows.holds c.receive.new.self) IsReadyAt None (receive_wakes c.in-Some.body.now c.receive.new.self IsReadyAt None (g.L.Limits.most c.args.limits.now) c.receive.ensures.rest c.receive.ensures.reader)

pub returns-in-Some-clause-noted : goal.returns-in-Some-clause-noted
returns-in-Some-clause-noted g c = noted_same c.args.bodies.now (c.get_mut.follows.lender c.receive.new.self) c.args.name.now c.in-Some.body.now c.receive.new.self c.in-Some.ensures.value (c.get_mut.follows.holds c.receive.new.self) c.receive.ensures.reader

pub returns-in-Some-clause-room : goal.returns-in-Some-clause-room
returns-in-Some-clause-room g c = keep_room c.args.bodies.now (c.get_mut.follows.lender c.receive.new.self) c.args.name.now c.in-Some.body.now c.receive.new.self c.in-Some.ensures.value (c.get_mut.follows.holds c.receive.new.self) c.receive.ensures.room

pub returns-in-None-clause-got : goal.returns-in-None-clause-got
returns-in-None-clause-got g c = ap (got_at (g.L.Limits.most c.args.limits.now)) (sym (chan_found c.args.bodies.now c.args.name.now None c.in-None.ensures.value))

pub returns-in-None-clause-channels : goal.returns-in-None-clause-channels
returns-in-None-clause-channels g c = adjusted_absent c.args.bodies.now c.get_mut.follows.lender-at-none c.args.name.now c.get_mut.follows.holds-at-none c.in-None.ensures.value (changed (Pop (g.L.Limits.most c.args.limits.now)))

pub returns-in-None-clause-unchanged : goal.returns-in-None-clause-unchanged
returns-in-None-clause-unchanged g c = λ none. same_chans c.args.bodies.now c.get_mut.follows.lender-at-none c.args.name.now c.get_mut.follows.holds-at-none c.in-None.ensures.value

pub returns-in-None-clause-readers : goal.returns-in-None-clause-readers
returns-in-None-clause-readers g c = wakes_absent c.args.bodies.now c.get_mut.follows.lender-at-none c.args.name.now c.get_mut.follows.holds-at-none c.in-None.ensures.value IsReadyAt None

pub returns-in-None-clause-noted : goal.returns-in-None-clause-noted
returns-in-None-clause-noted g c = noted_absent c.args.bodies.now c.get_mut.follows.lender-at-none c.args.name.now c.get_mut.follows.holds-at-none c.in-None.ensures.value

pub returns-in-None-clause-room : goal.returns-in-None-clause-room
returns-in-None-clause-room g c = keep_room_absent c.args.bodies.now c.get_mut.follows.lender-at-none c.args.name.now c.get_mut.follows.holds-at-none c.in-None.ensures.value

pub returns-in-Some-clause-taken : goal.returns-in-Some-clause-taken
returns-in-Some-clause-taken g c = λ came. room_is c.args.bodies.now (c.get_mut.follows.lender c.receive.new.self) c.args.name.now c.in-Some.body.now c.receive.new.self c.in-Some.ensures.value (c.get_mut.follows.holds c.receive.new.self) (c.receive.ensures.taken came)
