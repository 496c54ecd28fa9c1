use Rattle.std.proofs.Common.{Some, None, ap, sym, ◌∙◌}
use Rattle.fm_chan.specs.Bodies.{chans_of}
use Rattle.fm_chan.specs.Events.{open_writers_at}
use Rattle.fm_chan.proofs.Maps.{found_of}
use Rattle.fm_chan.proofs.channels.Channels.open_writers.Goals as goal

pub returns-in-Some : goal.returns-in-Some
unfolding chans_of
returns-in-Some c = c.open_writers.ensures ∙ ap open_writers_at (sym (found_of c.args.self.now.bodies c.channel.result.now c.args.port.now c.channel.ensures (Some c.in-Some.body.now) c.in-Some.ensures))

pub returns-in-None : goal.returns-in-None
unfolding chans_of
returns-in-None c = ap open_writers_at (sym (found_of c.args.self.now.bodies c.channel.result.now c.args.port.now c.channel.ensures None c.in-None.ensures))
