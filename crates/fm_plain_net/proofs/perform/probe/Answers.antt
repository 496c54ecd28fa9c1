use Rattle.std.proofs.Common.{[]}
use Rattle.fm_chan.specs.Bodies.{chans_of}
use Rattle.fm_plain_frame.specs.Frames.{proc_of}
use Rattle.fm_plain_net.proofs.Performing.{nobody, probe_uses, probes}
use Rattle.fm_plain_net.proofs.perform.probe.Goals as goal

pub waits-waits-requires : goal.waits-waits-requires
waits-waits-requires c =
    let P = c.args.program.now in
    let p = c.args.path.now in
    let x = proc_of P c.args.process.now in
    let m = chans_of c.args.channels.now in
    let ports = c.args.ports.now in
    probe_uses P p x m [] ports ports c.args.channel c.args.empty c.args.next c.requires.event c.requires.can

pub returns : goal.returns
returns c =
    let P = c.args.program.now in
    let p = c.args.path.now in
    let x = proc_of P c.args.process.now in
    let m = chans_of c.args.channels.now in
    let ports = c.args.ports.now in
    nobody P p x m [] ports (proc_of P c.put_probe.new.process) m ports 1
    (probes P p x m [] ports ports c.args.channel c.args.empty c.args.next c.requires.event c.requires.can c.waits-waits.result c.waits-waits.ensures (proc_of P c.put_probe.new.process) c.put_probe.ensures)
    c.alone.result.children.items c.alone.ensures.children c.alone.result.cost c.alone.ensures.cost
