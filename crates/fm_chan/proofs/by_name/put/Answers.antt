use Rattle.std.proofs.Common.{Some, None, ap, sym, arith, ◌∙◌}
use Rattle.std.proofs.lemmas.Result.{on_ok_weaker, on_err_weaker, IfOk-weaker}
use Rattle.fm_base.specs.Channels.{Push, changed, spills_at}
use Rattle.fm_chan.specs.Readers.{IsReadyAt, woken_by}
use Rattle.fm_chan.proofs.Maps.{chan_found, adjusted_at, unchanged_at, room_was, others_keep_room, wakes_one, noted_out, adjusted_absent, wakes_absent, noted_absent}
use Rattle.fm_chan.proofs.by_name.put.Goals as goal

pub returns-in-Some-clause-ok : goal.returns-in-Some-clause-ok
returns-in-Some-clause-ok c = on_ok_weaker c.put_last.result (adjusted_at c.args.bodies.now (c.get_mut.follows.lender c.put_last.new.self) c.args.name.now c.in-Some.body.now c.put_last.new.self c.in-Some.ensures.value (c.get_mut.follows.holds c.put_last.new.self) (changed (Push 0 c.args.message))) c.put_last.ensures.ok

pub returns-in-Some-clause-spilt : goal.returns-in-Some-clause-spilt
returns-in-Some-clause-spilt c = IfOk-weaker c.put_last.result _ _ (λ o e. e ∙ ap (spills_at (Push 0 c.args.message)) (sym (chan_found c.args.bodies.now c.args.name.now (Some c.in-Some.body.now) c.in-Some.ensures.value))) c.put_last.ensures.spilt

pub returns-in-Some-clause-readers : goal.returns-in-Some-clause-readers
returns-in-Some-clause-readers c = wakes_one c.args.bodies.now (c.get_mut.follows.lender c.put_last.new.self) c.args.name.now c.in-Some.body.now c.put_last.new.self c.in-Some.ensures.value (c.get_mut.follows.holds c.put_last.new.self) IsReadyAt (woken_by c.put_last.result) c.put_last.ensures.readers

pub returns-in-Some-clause-noted : goal.returns-in-Some-clause-noted
returns-in-Some-clause-noted c = noted_out c.args.bodies.now (c.get_mut.follows.lender c.put_last.new.self) c.args.name.now c.in-Some.body.now c.put_last.new.self c.in-Some.ensures.value (c.get_mut.follows.holds c.put_last.new.self) (woken_by c.put_last.result) c.put_last.ensures.noted

pub returns-in-Some-clause-err : goal.returns-in-Some-clause-err
returns-in-Some-clause-err c = on_err_weaker c.put_last.result (unchanged_at c.args.bodies.now (c.get_mut.follows.lender c.put_last.new.self) c.args.name.now c.in-Some.body.now c.put_last.new.self c.in-Some.ensures.value (c.get_mut.follows.holds c.put_last.new.self)) c.put_last.ensures.err

pub returns-in-Some-clause-reserved : goal.returns-in-Some-clause-reserved
returns-in-Some-clause-reserved c = λ room. c.put_last.ensures.reserved (room_was c.args.bodies.now (c.get_mut.follows.lender c.put_last.new.self) c.args.name.now c.in-Some.body.now c.put_last.new.self c.in-Some.ensures.value (c.get_mut.follows.holds c.put_last.new.self) room)

pub returns-in-Some-clause-room : goal.returns-in-Some-clause-room
returns-in-Some-clause-room c = others_keep_room c.args.bodies.now (c.get_mut.follows.lender c.put_last.new.self) c.args.name.now c.in-Some.body.now c.put_last.new.self c.in-Some.ensures.value (c.get_mut.follows.holds c.put_last.new.self)

pub returns-in-None-clause-ok : goal.returns-in-None-clause-ok
returns-in-None-clause-ok c = adjusted_absent c.args.bodies.now c.get_mut.follows.lender-at-none c.args.name.now c.get_mut.follows.holds-at-none c.in-None.ensures.value (changed (Push 0 c.args.message))

pub returns-in-None-clause-spilt : goal.returns-in-None-clause-spilt
returns-in-None-clause-spilt c = ap (spills_at (Push 0 c.args.message)) (sym (chan_found c.args.bodies.now c.args.name.now None c.in-None.ensures.value))

pub returns-in-None-clause-readers : goal.returns-in-None-clause-readers
returns-in-None-clause-readers c = wakes_absent c.args.bodies.now c.get_mut.follows.lender-at-none c.args.name.now c.get_mut.follows.holds-at-none c.in-None.ensures.value IsReadyAt None

pub returns-in-None-clause-noted : goal.returns-in-None-clause-noted
returns-in-None-clause-noted c = omega (arith, noted_absent c.args.bodies.now c.get_mut.follows.lender-at-none c.args.name.now c.get_mut.follows.holds-at-none c.in-None.ensures.value)
