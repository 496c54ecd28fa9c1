use Rattle.std.proofs.Common.{◌+◌, ap, ◌∙◌}
use Rattle.fm_base.specs.Channels.{Message}
use Rattle.fm_chan.specs.Bodies.{chans_of}
use Rattle.fm_chan.specs.Events.{after_send_to}
use Rattle.fm_code.specs.Statements.{with_words}
use Rattle.fm_proc_language.specs.Frames.{Held}
use Rattle.fm_proc_language.specs.Processes.{message_words}
use Rattle.fm_proc_slots.specs.Helds.{held}
use Rattle.fm_proc_slots.proofs.Copied.{copied_so}
use Rattle.fm_proc_events.proofs.sending.send_message.Goals as goal

pub returns-in_ok-cost-in-Some-clause-body : goal.returns-in_ok-cost-in-Some-clause-body
returns-in_ok-cost-in-Some-clause-body c =
    c.set_address.ensures
    ∙ ap (λ (p : Held × Message). with_words c.args.body.now c.args.next p.0.words)
    (copied_so (held c.args.body.now.frame.words c.args.slots.now) c.args.items.now c.as_slice.result.now _ c.in-Some.message c.as_slice.ensures c.in-Some.is c.in_ok-message.ensures.some c.in_ok-message.ensures.message)

pub returns-in_ok-cost-in-Some-clause-slots : goal.returns-in_ok-cost-in-Some-clause-slots
returns-in_ok-cost-in-Some-clause-slots c =
    ap (λ (p : Held × Message). p.0.slots)
    (copied_so (held c.args.body.now.frame.words c.args.slots.now) c.args.items.now c.as_slice.result.now _ c.in-Some.message c.as_slice.ensures c.in-Some.is c.in_ok-message.ensures.some c.in_ok-message.ensures.message)

pub returns-in_ok-cost-in-Some-clause-channels : goal.returns-in_ok-cost-in-Some-clause-channels
returns-in_ok-cost-in-Some-clause-channels c =
    c.in_ok-cost-in-Some.ensures.channels
    ∙ ap (λ (p : Held × Message). after_send_to c.args.channel.now p.1 (chans_of c.args.channels.now))
    (copied_so (held c.args.body.now.frame.words c.args.slots.now) c.args.items.now c.as_slice.result.now _ c.in-Some.message c.as_slice.ensures c.in-Some.is c.in_ok-message.ensures.some c.in_ok-message.ensures.message)

pub returns-in_ok-cost-in-Some-clause-cost : goal.returns-in_ok-cost-in-Some-clause-cost
returns-in_ok-cost-in-Some-clause-cost c =
    c.in_ok-cost-in-Some.ensures.cost
    ∙ ap (λ (p : Held × Message). 1 + message_words p.1)
    (copied_so (held c.args.body.now.frame.words c.args.slots.now) c.args.items.now c.as_slice.result.now _ c.in-Some.message c.as_slice.ensures c.in-Some.is c.in_ok-message.ensures.some c.in_ok-message.ensures.message)
