use Rattle.std.proofs.Common.{◌≡◌, ap, ◌∙◌}
use Rattle.fm_base.specs.declared.port.PortValue.{PortValue}
use Rattle.fm_base.specs.declared.port.PortValue.TheVariants.{Reader}
use Rattle.fm_chan.specs.Bodies.{chans_of}
use Rattle.fm_chan.specs.Events.{chan_at}
use Rattle.fm_chan.specs.Received.{pops_at}
use Rattle.fm_plain_net.proofs.processes.is_ready.Goals as goal

pub returns-in-Some : goal.returns-in-Some
returns-in-Some c = λ kept.
    let same : c.in-Some.port.now ≡ Reader c.args.channel.now = cc (c.in-Some.ensures ∙ kept) in
    c.is_ready.ensures ∙ ap (λ (z : PortValue). pops_at (chan_at z (chans_of c.args.channels.now))) same

pub returns-in-None : goal.returns-in-None
returns-in-None c = λ kept. absurd (cc (c.in-None.ensures ∙ kept))
