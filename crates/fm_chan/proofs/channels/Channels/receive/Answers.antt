use Rattle.std.proofs.Common.{refl, ap, subst, ◌∙◌}
use Rattle.std.specs.FinMap as map
use Rattle.fm_base.specs.Channels.{Pop, changed}
use Rattle.fm_finmap.specs.Changes.{adjust}
use Rattle.fm_chan.specs.Bodies.{chans_of}
use Rattle.fm_chan.specs.Kept.{chans_in}
use Rattle.fm_chan.specs.Readers.{IsReadyAt}
use Rattle.fm_chan.specs.Received.{got_at}
use Rattle.fm_chan.specs.Rooms.{HasRoom, HasRoomIn}
use Rattle.fm_chan.proofs.Waking.{none_woken}
use Rattle.fm_chan.proofs.channels.Channels.receive.Goals as goal

pub returns-clause-got : goal.returns-clause-got
unfolding chans_of
returns-clause-got g c = c.receive.ensures.got ∙ ap (λ q. got_at (g.L.Limits.most c.args.limits.now) (map.get (chans_in c.args.self.now.bodies) q)) c.channel.ensures

pub returns-clause-channels : goal.returns-clause-channels
unfolding chans_of
returns-clause-channels g c = c.receive.ensures.channels ∙ ap (λ q. adjust (chans_in c.args.self.now.bodies) q (changed (Pop (g.L.Limits.most c.args.limits.now)))) c.channel.ensures

pub returns-clause-unchanged : goal.returns-clause-unchanged
unfolding chans_of
returns-clause-unchanged g c = c.receive.ensures.unchanged

pub returns-clause-room : goal.returns-clause-room
unfolding HasRoom
returns-clause-room g c = c.receive.ensures.room

pub returns-clause-waking : goal.returns-clause-waking
returns-clause-waking g c = none_woken IsReadyAt _ _ c.receive.ensures.readers refl

pub returns-clause-taken : goal.returns-clause-taken
unfolding HasRoom
returns-clause-taken g c = λ came. subst (HasRoomIn c.receive.new.bodies) c.channel.ensures (c.receive.ensures.taken came)
