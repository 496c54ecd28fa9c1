use Rattle.std.proofs.Common.{refl, arith}
use Rattle.fm_chan.specs.Bodies.{chans_of}
use Rattle.fm_chan.specs.Rooms.{HasRoom}
use Rattle.fm_chan.specs.Readers.{IsReadyAt}
use Rattle.fm_chan.proofs.Maps.{chans_in-insert, others_keep, one_more_wakes, maybe_more_noted}
use Rattle.fm_chan.proofs.Waking.{none_woken}
use Rattle.fm_chan.proofs.channels.Channels.add.Goals as goal

pub invariant_of-self : goal.invariant_of-self
unfolding chans_of
invariant_of-self c = record { room = omega (arith, maybe_more_noted c.insert.result c.args.self.now.bodies c.insert.new.self c.args.name c.in_ok-body.body c.insert.ensures.ok c.insert.ensures.err c.requires c.in_ok-body.ensures.reader) }

pub returns-clause-ok : goal.returns-clause-ok
unfolding chans_of
returns-clause-ok c = chans_in-insert c.args.self.now.bodies c.insert.new.self c.args.name c.in_ok-body.body c.in_ok-insert.ensures.ok _ c.in_ok-body.ensures.chan

pub returns-clause-room : goal.returns-clause-room
unfolding HasRoom
returns-clause-room c = others_keep c.args.self.now.bodies c.insert.new.self c.args.name c.in_ok-body.body c.in_ok-insert.ensures.ok

pub returns-clause-waking : goal.returns-clause-waking
unfolding chans_of
returns-clause-waking c = none_woken IsReadyAt _ _ (one_more_wakes c.args.self.now.bodies c.insert.new.self c.args.name c.in_ok-body.body c.in_ok-insert.ensures.ok c.requires IsReadyAt) refl
