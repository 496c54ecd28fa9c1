use Rattle.std.proofs.Common.{ap, subst, sym, ◌∙◌}
use Rattle.fm_finmap.specs.Changes.{adjust}
use Rattle.fm_chan.specs.Bodies.{chans_of}
use Rattle.fm_chan.specs.Events.{put_first}
use Rattle.fm_chan.specs.Kept.{chans_in}
use Rattle.fm_chan.specs.Rooms.{HasRoom, HasRoomIn}
use Rattle.fm_chan.proofs.channels.Channels.put_back.Goals as goal

pub put_back-requires : goal.put_back-requires
unfolding HasRoom
put_back-requires c = subst (HasRoomIn c.args.self.now.bodies) (sym c.channel.ensures) c.requires

pub returns : goal.returns
unfolding chans_of
returns c = c.put_back.ensures.channels ∙ ap (λ q. adjust (chans_in c.args.self.now.bodies) q (put_first c.args.message)) c.channel.ensures
