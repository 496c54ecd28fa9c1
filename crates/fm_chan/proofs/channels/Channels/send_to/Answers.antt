use Rattle.std.proofs.Common.{refl, subst, ap, ◌∙◌}
use Rattle.std.specs.FinMap as map
use Rattle.fm_base.specs.Channels.{Push, all_shed, spills_at}
use Rattle.fm_chan.specs.Bodies.{chans_of}
use Rattle.fm_chan.specs.Kept.{chans_in}
use Rattle.fm_chan.specs.Rooms.{HasRoom}
use Rattle.fm_chan.specs.Readers.{IsReadyAt, WakesOne, put_wakes}
use Rattle.fm_chan.proofs.Waking.{none_spilt, all_spilt, none_woken, one_woken, then_wakes, at_end_wakes, on_err}
use Rattle.fm_chan.proofs.channels.Channels.send_to.Goals as goal

pub returns-in_err-reader-clause-err : goal.returns-in_err-reader-clause-err
unfolding chans_of
returns-in_err-reader-clause-err c = on_err c.from_residual.result c.in_err-reader.ensures.err

pub returns-in_err-reader-clause-reserved : goal.returns-in_err-reader-clause-reserved
unfolding HasRoom
returns-in_err-reader-clause-reserved c = λ room. absurd (cc (c.in_err-reader.ensures.reserved room))

pub returns-in_err-reader-clause-room : goal.returns-in_err-reader-clause-room
unfolding HasRoom
returns-in_err-reader-clause-room c = c.in_err-reader.ensures.room

pub returns-in_err-reader-clause-waking : goal.returns-in_err-reader-clause-waking
returns-in_err-reader-clause-waking c = none_woken IsReadyAt _ _ c.in_err-reader.ensures.readers refl

pub returns-in-Done-clause-ok : goal.returns-in-Done-clause-ok
unfolding chans_of
returns-in-Done-clause-ok c = c.in_ok-reader.ensures.ok ∙ none_spilt c.in_ok-reader.field-0 c.in-Done.reader _ _ c.in-Done.is c.in_ok-reader.ensures.spilt

pub returns-in-Done-clause-room : goal.returns-in-Done-clause-room
unfolding HasRoom
returns-in-Done-clause-room c = c.in_ok-reader.ensures.room

pub returns-in-Done-clause-waking : goal.returns-in-Done-clause-waking
returns-in-Done-clause-waking c =
    one_woken IsReadyAt _ _ c.in-Done.reader (subst (λ put. WakesOne IsReadyAt c.args.self.now.bodies c.put.new.bodies (put_wakes put)) c.in-Done.is c.in_ok-reader.ensures.readers) c.wake.ensures.items

pub returns-in-Spilt-clause-ok : goal.returns-in-Spilt-clause-ok
unfolding chans_of
returns-in-Spilt-clause-ok c =
    let spilt = spills_at (Push 0 c.args.message) (map.get (chans_in c.args.self.now.bodies) c.args.name.now) in
    c.discard_all.ensures.channels
    ∙ ap (λ xs. all_shed xs (chans_in c.put.new.bodies)) (c.of_message.ensures ∙ all_spilt c.in_ok-reader.field-0 c.in-Spilt.spilt _ c.in-Spilt.is c.in_ok-reader.ensures.spilt)
    ∙ ap (all_shed spilt) c.in_ok-reader.ensures.ok

pub returns-in-Spilt-clause-room : goal.returns-in-Spilt-clause-room
unfolding HasRoom
returns-in-Spilt-clause-room c = λ d apart room. c.discard_all.ensures.room d (c.in_ok-reader.ensures.room d apart room)

pub returns-in-Spilt-clause-waking : goal.returns-in-Spilt-clause-waking
returns-in-Spilt-clause-waking c =
    then_wakes IsReadyAt _ _ _ (subst (λ put. WakesOne IsReadyAt c.args.self.now.bodies c.put.new.bodies (put_wakes put)) c.in-Spilt.is c.in_ok-reader.ensures.readers) refl
    (at_end_wakes _ _ c.discard_all.ensures.waking)
