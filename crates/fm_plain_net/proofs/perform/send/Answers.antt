use Rattle.std.proofs.Common.{[], ap, refl, sym, subst, ◌∙◌, arith}
use Rattle.fm_base.specs.Channels.{message_ports}
use Rattle.fm_base.specs.declared.port.PortValue.TheVariants.{Writer}
use Rattle.fm_chan.specs.Bodies.{chans_of}
use Rattle.fm_chan.specs.Events.{after_send as sent_by}
use Rattle.fm_mean.specs.Actions.{message_words}
use Rattle.fm_plain_frame.specs.Frames.{proc_of}
use Rattle.fm_plain_passing.specs.Items.{message_of}
use Rattle.fm_plain_net.specs.Held.{AreKept, AreOnce, StayBut}
use Rattle.fm_plain_net.proofs.Performing.{any_writer, nobody, send_cost, send_kept, send_once, sends}
use Rattle.fm_chan.proofs.Waking.{wakes_all}
use Rattle.fm_plain_net.proofs.perform.send.Goals as goal

pub message_from-requires-clause-kept : goal.message_from-requires-clause-kept
message_from-requires-clause-kept c =
    let P = c.args.program.now in
    let x = proc_of P c.args.process.now in
    subst (λ v. AreKept c.args.ports.now (message_ports v)) (sym c.in_ok-items.ensures.ok.1)
    (send_kept P c.args.path.now x (chans_of c.args.channels.now) [] c.args.ports.now c.args.ports.now c.args.channel c.args.writer c.args.items c.args.next c.requires.event c.requires.can)

pub message_from-requires-clause-once : goal.message_from-requires-clause-once
message_from-requires-clause-once c =
    let P = c.args.program.now in
    let x = proc_of P c.args.process.now in
    subst (λ v. AreOnce (message_ports v)) (sym c.in_ok-items.ensures.ok.1)
    (send_once P c.args.path.now x (chans_of c.args.channels.now) [] c.args.ports.now c.args.ports.now c.args.channel c.args.writer c.args.items c.args.next c.requires.event c.requires.can)

pub returns-clause-performs : goal.returns-clause-performs
returns-clause-performs c =
    let P = c.args.program.now in
    let p = c.args.path.now in
    let x = proc_of P c.args.process.now in
    let m = chans_of c.args.channels.now in
    let ports = c.args.ports.now in
    let later = c.message_from.new.ports in
    let sent = c.in_ok-message.ensures.message ∙ c.in_ok-items.ensures.ok.1 in
    let cost = send_cost P p x m [] ports later c.args.channel c.args.writer c.args.items c.args.next c.requires.event c.requires.can in
    nobody P p x m [] ports (proc_of P c.take_message.new.process) (chans_of c.send_or_lose.new.self) later c.alone.result.cost
    (sends P p x m [] ports later c.args.channel c.args.writer c.args.items c.args.next c.requires.event c.requires.can (proc_of P c.take_message.new.process) c.in_ok-items.ensures.ok.0
    (chans_of c.send_or_lose.new.self) (c.in_ok-send_or_lose.ensures.ok ∙ any_writer c.args.channel 0 c.args.writer c.in_ok-message.message m ∙ ap (λ v. sent_by (Writer c.args.channel c.args.writer) v m) sent)
    c.alone.result.cost (omega (arith, c.alone.ensures.cost, c.in_ok-cost.ensures, ap (λ v. message_words (message_of v)) c.as_slice.ensures, ap message_words c.in_ok-items.ensures.ok.1, cost))
    (subst (λ v. StayBut (message_ports v) ports later) c.in_ok-items.ensures.ok.1 c.in_ok-message.ensures.others))
    c.alone.result.children.items c.alone.ensures.children c.alone.result.cost refl

pub returns-clause-waking : goal.returns-clause-waking
returns-clause-waking c = wakes_all c.args.channels.now c.send_or_lose.new.self c.in_ok-send_or_lose.ensures.waking
