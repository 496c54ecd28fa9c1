use Rattle.std.proofs.Common.{sym, ap, ◌∙◌, w64}
use Rattle.std.proofs.lemmas.Int.{to_z-of_z}
use Rattle.fm_chan.specs.Bodies.{chans_of}
use Rattle.fm_proc_language.specs.Slots.{in_slot}
use Rattle.fm_proc_events.specs.Events.{channel_in}
use Rattle.fm_proc_events.specs.Phases.{proc_of}
use Rattle.fm_proc_events.proofs.Messages.{is_writer, sends_if, unsent}
use Rattle.fm_proc_events.proofs.sending.send.Goals as goal

pub returns-clause-performs : goal.returns-clause-performs
returns-clause-performs c =
    let y = proc_of c.args.process.now in
    let b = c.in-Some-body.body in
    let same = to_z-of_z w64 c.args.slot c.ranges.slot in
    let said = c.send_message.ensures in
    sends_if y (chans_of c.args.channels.now) c.args.slot c.args.items.now c.args.next c.requires.look c.requires.can b c.in-Some-body.is c.args.path.now
    c.in-Some.channel (sym c.in-Some.is ∙ c.in_ok-channel.ensures ∙ ap (λ z. channel_in (in_slot y.slots z)) same) c.as_slice.result.now c.as_slice.ensures
    c.send_message.new.body c.send_message.new.slots (chans_of c.send_message.new.channels) c.send_message.result said.body said.slots said.channels said.cost

pub returns-clause-stays : goal.returns-clause-stays
returns-clause-stays c =
    unsent (proc_of c.args.process.now) c.in-Some-body.body c.in-Some-body.is c.send_message.new.body c.send_message.new.slots c.send_message.result
    c.send_message.ensures.body_stays c.send_message.ensures.slots_stay

pub send_message-requires-clause-outport : goal.send_message-requires-clause-outport
send_message-requires-clause-outport c = λ x there.
    let y = proc_of c.args.process.now in
    let same = to_z-of_z w64 c.args.slot c.ranges.slot in
    is_writer y (chans_of c.args.channels.now) c.args.slot c.args.items.now c.args.next c.requires.look c.requires.can x (ap (in_slot y.slots) (sym same) ∙ there)
