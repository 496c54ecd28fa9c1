use Rattle.std.proofs.Common.{◌∙◌}
use Rattle.fm_chan.specs.Bodies.{chans_of}
use Rattle.fm_chan.proofs.Maps.{contains-chans_in}
use Rattle.fm_chan.proofs.channels.Channels.contains.Goals as goal

pub returns : goal.returns
unfolding chans_of
returns c = c.contains_key.ensures ∙ contains-chans_in c.args.self.now.bodies c.args.name.now
