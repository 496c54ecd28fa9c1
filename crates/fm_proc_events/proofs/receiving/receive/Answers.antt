use Rattle.std.proofs.Common.{◌≡◌, Some, refl, sym, ap, ◌∙◌, w64}
use Rattle.std.proofs.lemmas.Int.{to_z-of_z}
use Rattle.fm_base.specs.Channels.{Pop, channel_of}
use Rattle.fm_finmap.specs.Changes.{adjust}
use Rattle.fm_chan.specs.Bodies.{chans_of}
use Rattle.fm_chan.specs.Events.{after_op, put_first}
use Rattle.fm_chan.proofs.Returning.{taken_back}
use Rattle.fm_proc_language.specs.Processes.{limits_of}
use Rattle.fm_proc_language.specs.Slots.{in_slot}
use Rattle.fm_proc_events.specs.Phases.{proc_of}
use Rattle.fm_proc_events.proofs.Messages.{gets_message, meets_end, meets_excess}
use Rattle.fm_proc_events.proofs.receiving.receive.Goals as goal

pub returns-in-Exceeds-clause-performs : goal.returns-in-Exceeds-clause-performs
returns-in-Exceeds-clause-performs c =
    let y = proc_of c.args.process.now in
    let x = c.in-Some.port.now in
    let same = to_z-of_z w64 c.args.slot c.ranges.slot in
    let there : Some x ≡ in_slot y.slots c.args.slot = c.in-Some.ensures ∙ ap (in_slot y.slots) same in
    meets_excess y (chans_of c.args.channels.now) c.args.slot c.args.items.now c.args.status c.args.at_end c.args.next c.requires.look c.requires.can
    c.args.path.now x there (chans_of c.next_message-got.new.channels) c.next_message-got.ensures.channels (sym c.in-Exceeds.is ∙ c.next_message-got.ensures.got) (proc_of c.meet_excess.new.process) c.meet_excess.ensures

pub returns-in-End-clause-performs : goal.returns-in-End-clause-performs
returns-in-End-clause-performs c =
    let y = proc_of c.args.process.now in
    let b = c.in-Some-replace.body in
    let is : y.body ≡ Some b = cc (c.replace.ensures.value, c.in-Some-replace.is) in
    let same = to_z-of_z w64 c.args.slot c.ranges.slot in
    let there : Some c.in-Some.port.now ≡ in_slot y.slots c.args.slot = c.in-Some.ensures ∙ ap (in_slot y.slots) same in
    meets_end y (chans_of c.args.channels.now) c.args.slot c.args.items.now c.args.status c.args.at_end c.args.next c.requires.look c.requires.can b is
    c.args.path.now c.in-Some.port.now there (chans_of c.next_message-got.new.channels) c.next_message-got.ensures.channels
    (proc_of c.meet_end.new.process) (chans_of c.next_message-got.new.channels) (sym c.in-End.is ∙ c.next_message-got.ensures.got) c.meet_end.ensures refl

pub returns-in-Ok-clause-performs : goal.returns-in-Ok-clause-performs
returns-in-Ok-clause-performs c =
    let y = proc_of c.args.process.now in
    let same = to_z-of_z w64 c.args.slot c.ranges.slot in
    let after = c.store_message.new.body in
    let slots = c.store_message.new.slots in
    let said = c.in-Ok.ensures in
    let there : Some c.in-Some.port.now ≡ in_slot y.slots c.args.slot = c.in-Some.ensures ∙ ap (in_slot y.slots) same in
    gets_message y (chans_of c.args.channels.now) c.args.slot c.args.items.now c.args.status c.args.at_end c.args.next c.requires.look c.requires.can c.in-Some-body.body c.in-Some-body.is
    c.args.path.now c.in-Some.port.now there (chans_of c.next_message-got.new.channels) c.next_message-got.ensures.channels
    (record y { body = Some after; slots = slots }) (chans_of c.shed.new.channels) c.in-Message.message (sym c.in-Message.is ∙ c.next_message-got.ensures.got)
    c.as_slice.result.now c.as_slice.ensures after said.body slots said.slots c.in-Ok.field-0.drops.items said.drops refl c.shed.ensures.channels c.in-Ok.field-0.cost said.cost

pub returns-in-Err-clause-channels : goal.returns-in-Err-clause-channels
returns-in-Err-clause-channels c =
    let y = proc_of c.args.process.now in
    let x = c.in-Some.port.now in
    let limits = limits_of c.args.items.now in
    let cs = chans_of c.args.channels.now in
    let same = to_z-of_z w64 c.args.slot c.ranges.slot in
    let there : in_slot c.store_message.new.slots c.args.slot ≡ Some x = ap (λ s. in_slot s c.args.slot) c.in-Err.ensures.slots_stay ∙ sym (c.in-Some.ensures ∙ ap (in_slot y.slots) same) in
    c.put_back_at.ensures x (ap (in_slot c.store_message.new.slots) same ∙ there) ∙ ap (λ ds. adjust ds (channel_of x) (put_first c.in-Err.message)) c.next_message-got.ensures.channels
    ∙ ap (λ m. adjust (after_op x (Pop limits) cs) (channel_of x) (put_first m)) c.in-Err.ensures.back
    ∙ taken_back c.args.channels.now x limits c.in-Message.message (sym c.in-Message.is ∙ c.next_message-got.ensures.got)
