use Rattle.std.proofs.Common.{ap, sym, ◌∙◌}
use Rattle.fm_mean.specs.Actions.{Make, Meets, Receive}
use Rattle.fm_plain_frame.specs.Frames.{proc_of}
use Rattle.fm_plain.specs.Events.{event_by}
use Rattle.fm_nodes_trees.proofs.going.perform.Goals as goal

pub fault-requires : goal.fault-requires
fault-requires c =
    let p = c.args.program.now in
    let ph = (proc_of p c.args.process.now).phase in
    c.requires ∙ ap (λ e. Meets (event_by ph e)) c.in-Fail.is

pub make-requires : goal.make-requires
make-requires c =
    let p = c.args.program.now in
    let ph = (proc_of p c.args.process.now).phase in
    c.requires ∙ ap (λ e. Meets (event_by ph e)) c.in-Make.is ∙ ap (λ ps. Meets (Make ps c.in-Make.writers c.in-Make.cost c.in-Make.next)) (sym c.as_slice.ensures)

pub send-requires : goal.send-requires
send-requires c =
    let p = c.args.program.now in
    let ph = (proc_of p c.args.process.now).phase in
    c.requires ∙ ap (λ e. Meets (event_by ph e)) c.in-Send.is

pub receive-requires : goal.receive-requires
receive-requires c =
    let p = c.args.program.now in
    let ph = (proc_of p c.args.process.now).phase in
    c.requires ∙ ap (λ e. Meets (event_by ph e)) c.in-Receive.is ∙ ap (λ ps. Meets (Receive c.in-Receive.channel c.in-Receive.line.0 ps c.in-Receive.iostat c.in-Receive.at_end c.in-Receive.next)) (sym c.as_slice-in-Receive.ensures)

pub probe-requires : goal.probe-requires
probe-requires c =
    let p = c.args.program.now in
    let ph = (proc_of p c.args.process.now).phase in
    c.requires ∙ ap (λ e. Meets (event_by ph e)) c.in-Probe.is

pub start-requires : goal.start-requires
start-requires c =
    let p = c.args.program.now in
    let ph = (proc_of p c.args.process.now).phase in
    c.requires ∙ ap (λ e. Meets (event_by ph e)) c.in-Begin.is

pub finish-requires : goal.finish-requires
finish-requires c =
    let p = c.args.program.now in
    let ph = (proc_of p c.args.process.now).phase in
    c.requires ∙ ap (λ e. Meets (event_by ph e)) c.in-End.is
