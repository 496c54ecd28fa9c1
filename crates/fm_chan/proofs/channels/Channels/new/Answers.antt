use Rattle.std.proofs.Common.{arith}
use Rattle.fm_chan.specs.Bodies.{chans_of}
use Rattle.fm_chan.proofs.Maps.{chans_in-empty, noted_in-empty}
use Rattle.fm_chan.proofs.channels.Channels.new.Goals as goal

pub invariant_of-result : goal.invariant_of-result
invariant_of-result c = record { room = omega (arith, noted_in-empty _ c.new.ensures) }

pub returns-clause-channels : goal.returns-clause-channels
unfolding chans_of
returns-clause-channels c = chans_in-empty _ c.new.ensures
