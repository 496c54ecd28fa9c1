use Rattle.std.proofs.Common.{ap, ◌∙◌}
use Rattle.fm_base.specs.Channels.{shut}
use Rattle.fm_base.specs.declared.port.PortValue.TheVariants.{Writer}
use Rattle.fm_chan.specs.Bodies.{chans_of}
use Rattle.fm_proc_events.proofs.NewChannels.{no_writer}
use Rattle.fm_proc_events.proofs.making.new_mute_channel.Goals as goal

pub returns-clause-channels : goal.returns-clause-channels
returns-clause-channels c =
    c.close.ensures.channels ∙ ap (λ z. shut z (chans_of c.make.new.self)) c.in_ok-inport.ensures.outport ∙ ap (shut (Writer c.args.name 0)) c.in_ok-inport.ensures.ok ∙ no_writer (chans_of c.args.channels.now) c.args.name
