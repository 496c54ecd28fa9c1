use Rattle.std.proofs.Common.{◌≡◌, [], ap, sym, ◌∙◌}
use Rattle.std.specs.FinMap.{get}
use Rattle.fm_base.specs.Channels.{Limits, Pop, all_shed, changed}
use Rattle.fm_chan.specs.Bodies.{chans_of}
use Rattle.fm_chan.specs.Received.{got_at}
use Rattle.fm_chan.specs.declared.message.Got.TheVariants as got
use Rattle.fm_finmap.specs.Changes.{adjust}
use Rattle.fm_mean.specs.Steps.{limits_of}
use Rattle.fm_plain_frame.specs.Frames.{proc_of}
use Rattle.fm_plain_replies.specs.Goes.{after_message}
use Rattle.fm_plain_net.proofs.Performing.{end_receives, exceeds_receives, keeps_all, nobody, receive_cost, receive_drops, receive_uses, receive_waits_not, receives}
use Rattle.fm_chan.proofs.Waking.{wakes_all, wakes_all_then}
use Rattle.fm_plain_net.proofs.perform.receive.Goals as goal

pub next_message-requires : goal.next_message-requires
next_message-requires c =
    let P = c.args.program.now in
    let p = c.args.path.now in
    let x = proc_of P c.args.process.now in
    let m = chans_of c.args.channels.now in
    let ports = c.args.ports.now in
    receive_uses P p x m [] ports ports c.args.channel c.args.line.0 c.args.places.now c.args.iostat c.args.at_end c.args.next c.requires.event c.requires.can

pub store-requires : goal.store-requires
store-requires c =
    let P = c.args.program.now in
    let p = c.args.path.now in
    let x = proc_of P c.args.process.now in
    let m = chans_of c.args.channels.now in
    let ports = c.args.ports.now in
    let limits : c.as_slice.result.now ≡ limits_of c.args.places.now = c.as_slice.ensures.value ∙ c.in_ok-limits.ensures in
    receive_drops P p x m [] ports ports c.args.channel c.args.line.0 c.args.places.now c.args.iostat c.args.at_end c.args.next c.requires.event c.requires.can c.in-Message.message
    (sym c.in-Message.is ∙ c.next_message.ensures.got ∙ ap (λ (ls : Limits). got_at ls (get m c.args.channel)) limits)

pub unreachable-requires : goal.unreachable-requires
unreachable-requires c =
    let P = c.args.program.now in
    let p = c.args.path.now in
    let x = proc_of P c.args.process.now in
    let m = chans_of c.args.channels.now in
    let ports = c.args.ports.now in
    let limits : c.as_slice.result.now ≡ limits_of c.args.places.now = c.as_slice.ensures.value ∙ c.in_ok-limits.ensures in
    receive_waits_not P p x m [] ports ports c.args.channel c.args.line.0 c.args.places.now c.args.iostat c.args.at_end c.args.next c.requires.event c.requires.can
    (sym c.in-Wait.is ∙ c.next_message.ensures.got ∙ ap (λ (ls : Limits). got_at ls (get m c.args.channel)) limits)

pub returns-in-Message-clause-performs : goal.returns-in-Message-clause-performs
returns-in-Message-clause-performs c =
    let P = c.args.program.now in
    let p = c.args.path.now in
    let x = proc_of P c.args.process.now in
    let m = chans_of c.args.channels.now in
    let ports = c.args.ports.now in
    let drops = (after_message x c.args.next c.args.places.now c.args.iostat c.in-Message.message).drops in
    let limits : c.as_slice.result.now ≡ limits_of c.args.places.now = c.as_slice.ensures.value ∙ c.in_ok-limits.ensures in
    nobody P p x m [] ports (proc_of P c.store.new.process) (chans_of c.store.new.channels) c.store.new.ports c.in_ok-cost-in-Message.cost
    (receives P p x m [] ports c.store.new.ports c.args.channel c.args.line.0 c.args.places.now c.args.iostat c.args.at_end c.args.next c.requires.event c.requires.can (got.Message c.in-Message.message)
    (sym c.in-Message.is ∙ c.next_message.ensures.got ∙ ap (λ (ls : Limits). got_at ls (get m c.args.channel)) limits) (proc_of P c.store.new.process) c.in_ok-cost-in-Message.ensures.process
    (chans_of c.store.new.channels) (c.in_ok-cost-in-Message.ensures.channels ∙ ap (all_shed drops) (c.next_message.ensures.channels ∙ ap (λ (ls : Limits). adjust m c.args.channel (changed (Pop ls))) limits)) c.in_ok-cost-in-Message.cost (c.in_ok-cost-in-Message.ensures.cost ∙ sym (receive_cost P p x m [] ports ports c.args.channel c.args.line.0 c.args.places.now c.args.iostat c.args.at_end c.args.next c.requires.event c.requires.can c.in-Message.message)) c.in_ok-cost-in-Message.ensures.ports)
    c.alone.result.children.items c.alone.ensures.children c.alone.result.cost c.alone.ensures.cost

pub returns-in-Exceeds-clause-performs : goal.returns-in-Exceeds-clause-performs
returns-in-Exceeds-clause-performs c =
    let P = c.args.program.now in
    let p = c.args.path.now in
    let x = proc_of P c.args.process.now in
    let m = chans_of c.args.channels.now in
    let ports = c.args.ports.now in
    let limits : c.as_slice.result.now ≡ limits_of c.args.places.now = c.as_slice.ensures.value ∙ c.in_ok-limits.ensures in
    nobody P p x m [] ports (proc_of P c.fail.new.process) (chans_of c.next_message.new.channels) ports 1
    (exceeds_receives P p x m [] ports ports c.args.channel c.args.line.0 c.args.places.now c.args.iostat c.args.at_end c.args.next c.requires.event c.requires.can (λ left. keeps_all left ports)
    (sym c.in-Exceeds.is ∙ c.next_message.ensures.got ∙ ap (λ (ls : Limits). got_at ls (get m c.args.channel)) limits) (proc_of P c.fail.new.process) (c.fail.ensures P) (chans_of c.next_message.new.channels)
    (c.next_message.ensures.channels ∙ ap (λ (ls : Limits). adjust m c.args.channel (changed (Pop ls))) limits))
    c.alone-in-Exceeds.result.children.items c.alone-in-Exceeds.ensures.children c.alone-in-Exceeds.result.cost c.alone-in-Exceeds.ensures.cost

pub returns-clause-performs : goal.returns-clause-performs
returns-clause-performs c =
    let P = c.args.program.now in
    let p = c.args.path.now in
    let x = proc_of P c.args.process.now in
    let m = chans_of c.args.channels.now in
    let ports = c.args.ports.now in
    let limits : c.as_slice.result.now ≡ limits_of c.args.places.now = c.as_slice.ensures.value ∙ c.in_ok-limits.ensures in
    nobody P p x m [] ports (proc_of P c.meet_end.new.process) (chans_of c.next_message.new.channels) ports 1
    (end_receives P p x m [] ports ports c.args.channel c.args.line.0 c.args.places.now c.args.iostat c.args.at_end c.args.next c.requires.event c.requires.can (λ left. keeps_all left ports)
    (sym c.in-End.is ∙ c.next_message.ensures.got ∙ ap (λ (ls : Limits). got_at ls (get m c.args.channel)) limits) (proc_of P c.meet_end.new.process) c.meet_end.ensures (chans_of c.next_message.new.channels)
    (c.next_message.ensures.channels ∙ ap (λ (ls : Limits). adjust m c.args.channel (changed (Pop ls))) limits))
    c.alone-in-End.result.children.items c.alone-in-End.ensures.children c.alone-in-End.result.cost c.alone-in-End.ensures.cost

pub returns-in-Message-clause-waking : goal.returns-in-Message-clause-waking
returns-in-Message-clause-waking c =
    wakes_all_then c.args.channels.now c.next_message.new.channels c.store.new.channels (wakes_all c.args.channels.now c.next_message.new.channels c.next_message.ensures.waking) c.in_ok-cost-in-Message.ensures.waking

pub returns-in-Exceeds-clause-waking : goal.returns-in-Exceeds-clause-waking
returns-in-Exceeds-clause-waking c = wakes_all c.args.channels.now c.next_message.new.channels c.next_message.ensures.waking

pub returns-clause-waking : goal.returns-clause-waking
returns-clause-waking c = wakes_all c.args.channels.now c.next_message.new.channels c.next_message.ensures.waking
