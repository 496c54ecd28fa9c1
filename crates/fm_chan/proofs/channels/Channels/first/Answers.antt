use Rattle.std.proofs.Common.{◌≡◌, Option, Some, None, ap, sym, ◌∙◌, rules}
use Rattle.std.specs.FinMap as map
use Rattle.fm_base.specs.Channels.{Chan, channel_of}
use Rattle.fm_chan.specs.Bodies.{chans_of}
use Rattle.fm_chan.specs.Received.{first_at}
use Rattle.fm_chan.specs.Kept.{chan_of, chans_in}
use Rattle.fm_chan.proofs.Maps.{by_name, found_of}
use Rattle.fm_chan.proofs.channels.Channels.first.Goals as goal

pub returns-in-Some : goal.returns-in-Some
unfolding chans_of chans_in
returns-in-Some c =
    let b = c.in-Some.body.now in
    let is : Some b ≡ map.get (by_name c.args.self.now.bodies) c.channel.result.now = search rules in
    c.first.ensures ∙ ap first_at (sym (found_of c.args.self.now.bodies c.channel.result.now c.args.port.now c.channel.ensures (Some b) is))

pub returns-in-None : goal.returns-in-None
unfolding chans_of chans_in
returns-in-None c =
    let is : None ≡ map.get (by_name c.args.self.now.bodies) c.channel.result.now = search rules in
    ap first_at (sym (found_of c.args.self.now.bodies c.channel.result.now c.args.port.now c.channel.ensures None is))
