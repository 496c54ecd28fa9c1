use Rattle.std.proofs.Common.{[], map, ap, sym, ◌∙◌, arith}
use Rattle.std.proofs.lemmas.List.{length-map}
use Rattle.fm_chan.specs.Bodies.{chans_of}
use Rattle.fm_mean.specs.Actions.{Make, Meets, Receive}
use Rattle.fm_plain_frame.specs.Frames.{proc_of}
use Rattle.fm_plain.specs.Events.{event_by}
use Rattle.fm_plain_net.specs.Goes.{joined_by}
use Rattle.fm_run.proofs.Results.{if_ok_three}
use Rattle.fm_plain_net.proofs.Performing.{begins, dropped_there, end_drops, ends, fails, nobody}
use Rattle.fm_chan.proofs.Waking.{wakes_nobody}
use Rattle.std.proofs.lemmas.Result.{IfOk-weaker}
use Rattle.fm_plain_net.proofs.perform.perform.Goals as goal

pub returns-in-Fail-clause-performs : goal.returns-in-Fail-clause-performs
returns-in-Fail-clause-performs c =
    let P = c.args.program.now in
    let p = c.args.path.now in
    let x = proc_of P c.args.process.now in
    let m = chans_of c.args.channels.now in
    let ports = c.args.ports.now in
    let does = c.requires.event ∙ ap (λ e. Meets (event_by x.phase e)) c.in-Fail.is in
    nobody P p x m [] ports (proc_of P c.fail.new.process) m ports 1 (fails P p x m [] ports ports c.in-Fail.line.0 c.in-Fail.fault does c.requires.can (proc_of P c.fail.new.process) (c.fail.ensures P))
    c.alone.result.children.items c.alone.ensures.children c.alone.result.cost c.alone.ensures.cost

pub make-requires-clause-event : goal.make-requires-clause-event
make-requires-clause-event c = c.requires.event ∙ ap (λ e. Meets (event_by (proc_of c.args.program.now c.args.process.now).phase e)) c.in-Make.is ∙ ap (λ ps. Meets (Make ps c.in-Make.writers c.in-Make.cost c.in-Make.next)) (sym c.as_slice.ensures)

pub send-requires-clause-event : goal.send-requires-clause-event
send-requires-clause-event c = c.requires.event ∙ ap (λ e. Meets (event_by (proc_of c.args.program.now c.args.process.now).phase e)) c.in-Send.is

pub receive-requires-clause-event : goal.receive-requires-clause-event
receive-requires-clause-event c = c.requires.event ∙ ap (λ e. Meets (event_by (proc_of c.args.program.now c.args.process.now).phase e)) c.in-Receive.is ∙ ap (λ ps. Meets (Receive c.in-Receive.channel c.in-Receive.line.0 ps c.in-Receive.iostat c.in-Receive.at_end c.in-Receive.next)) (sym c.as_slice-in-Receive.ensures)

pub probe-requires-clause-event : goal.probe-requires-clause-event
probe-requires-clause-event c = c.requires.event ∙ ap (λ e. Meets (event_by (proc_of c.args.program.now c.args.process.now).phase e)) c.in-Probe.is

pub returns-in-Begin-clause-performs : goal.returns-in-Begin-clause-performs
returns-in-Begin-clause-performs c =
    let P = c.args.program.now in
    let p = c.args.path.now in
    let x = proc_of P c.args.process.now in
    let m = chans_of c.args.channels.now in
    let ports = c.args.ports.now in
    let does = c.requires.event ∙ ap (λ e. Meets (event_by x.phase e)) c.in-Begin.is in
    if_ok_three c.start.result c.start.ensures.process c.start.ensures.children c.start.ensures.cost (λ done self starts paid.
    begins P p x m [] ports ports does c.requires.can (proc_of P c.start.new.process) self (map (proc_of P) done.children.items) starts done.cost (omega (arith, paid, length-map done.children.items (proc_of P))))

pub unreachable-requires : goal.unreachable-requires
unreachable-requires c = cc (sym (ap joined_by c.in-Join.is) ∙ c.requires.alone)

pub finish-requires-clause-kept : goal.finish-requires-clause-kept
finish-requires-clause-kept c =
    let P = c.args.program.now in
    let p = c.args.path.now in
    let x = proc_of P c.args.process.now in
    let m = chans_of c.args.channels.now in
    let ports = c.args.ports.now in
    let does = c.requires.event ∙ ap (λ e. Meets (event_by x.phase e)) c.in-End.is in
    dropped_there _ ports (end_drops P p x m [] ports ports does c.requires.can)

pub finish-requires-clause-once : goal.finish-requires-clause-once
finish-requires-clause-once c =
    let P = c.args.program.now in
    let p = c.args.path.now in
    let x = proc_of P c.args.process.now in
    let m = chans_of c.args.channels.now in
    let ports = c.args.ports.now in
    let does = c.requires.event ∙ ap (λ e. Meets (event_by x.phase e)) c.in-End.is in
    (end_drops P p x m [] ports ports does c.requires.can).once

pub returns-in_ok-finish-in-End-clause-performs : goal.returns-in_ok-finish-in-End-clause-performs
returns-in_ok-finish-in-End-clause-performs c =
    let P = c.args.program.now in
    let p = c.args.path.now in
    let x = proc_of P c.args.process.now in
    let m = chans_of c.args.channels.now in
    let ports = c.args.ports.now in
    let does = c.requires.event ∙ ap (λ e. Meets (event_by x.phase e)) c.in-End.is in
    nobody P p x m [] ports (proc_of P c.finish.new.process) (chans_of c.finish.new.channels) c.finish.new.ports 1
    (ends P p x m [] ports c.finish.new.ports does c.requires.can (proc_of P c.finish.new.process) c.in_ok-finish-in-End.ensures.process (chans_of c.finish.new.channels) c.in_ok-finish-in-End.ensures.channels c.in_ok-finish-in-End.ensures.others)
    c.alone-in-End.result.children.items c.alone-in-End.ensures.children c.alone-in-End.result.cost c.alone-in-End.ensures.cost

pub returns-in-Fail-clause-waking : goal.returns-in-Fail-clause-waking
returns-in-Fail-clause-waking c = wakes_nobody c.args.channels.now

pub returns-in-Probe-clause-waking : goal.returns-in-Probe-clause-waking
returns-in-Probe-clause-waking c = wakes_nobody c.args.channels.now

pub returns-in-Begin-clause-waking : goal.returns-in-Begin-clause-waking
returns-in-Begin-clause-waking c = IfOk-weaker c.start.result _ _ (λ done paid. wakes_nobody c.args.channels.now) c.start.ensures.cost
