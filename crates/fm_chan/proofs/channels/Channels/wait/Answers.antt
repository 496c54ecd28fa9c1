use Rattle.std.proofs.Common.{refl, inl, ap, arith, ◌++◌, option_to_list, ◌∙◌}
use Rattle.fm_chan.specs.Bodies.{chans_of}
use Rattle.fm_chan.specs.Rooms.{HasRoom}
use Rattle.fm_chan.specs.Woken.{waiting_reader}
use Rattle.fm_chan.proofs.Maps.{noted_in-le}
use Rattle.fm_chan.proofs.Waking.{none_woken, noted_woken, on_err}
use Rattle.fm_chan.proofs.channels.Channels.wait.Goals as goal

pub returns-in_err-reserve-clause-channels : goal.returns-in_err-reserve-clause-channels
unfolding chans_of
returns-in_err-reserve-clause-channels c = refl

pub returns-in_err-reserve-clause-err : goal.returns-in_err-reserve-clause-err
unfolding waiting_reader
returns-in_err-reserve-clause-err c = on_err c.from_residual.result (λ d. refl)

pub returns-in_err-reserve-clause-others : goal.returns-in_err-reserve-clause-others
unfolding waiting_reader
returns-in_err-reserve-clause-others c = λ d apart. refl

pub returns-in_err-reserve-clause-room : goal.returns-in_err-reserve-clause-room
unfolding HasRoom
returns-in_err-reserve-clause-room c = λ d room. room

pub returns-in_err-reserve-clause-waking : goal.returns-in_err-reserve-clause-waking
returns-in_err-reserve-clause-waking c = none_woken _ _ _ (λ d n waits. inl waits) c.in_err-reserve.ensures.items

pub note-before-requires-clause-there : goal.note-before-requires-clause-there
unfolding chans_of
note-before-requires-clause-there c = c.requires.there

pub note-before-requires-clause-waits : goal.note-before-requires-clause-waits
unfolding chans_of
note-before-requires-clause-waits c = c.requires.waits

pub invariant_of-self-2 : goal.invariant_of-self-2
invariant_of-self-2 c = record { room = omega (arith, noted_in-le c.args.self.now.bodies, c.in_ok-reserve.ensures.ok) }

pub returns-clause-channels : goal.returns-clause-channels
unfolding chans_of
returns-clause-channels c = c.note-before.ensures.channels

pub returns-clause-ok : goal.returns-clause-ok
unfolding waiting_reader
returns-clause-ok c = c.note-before.ensures.here

pub returns-clause-others : goal.returns-clause-others
unfolding waiting_reader
returns-clause-others c = c.note-before.ensures.others

pub returns-clause-room : goal.returns-clause-room
unfolding HasRoom
returns-clause-room c = c.note-before.ensures.room

pub returns-clause-waking : goal.returns-clause-waking
returns-clause-waking c = noted_woken c.args.self.now _ c.args.name.now c.note-before.result c.note-before.ensures.before c.note-before.ensures.others (c.wake.ensures.items ∙ ap (λ ns. ns ++ option_to_list c.note-before.result) c.in_ok-reserve.ensures.items)
