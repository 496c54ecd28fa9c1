-- What a receive gets.
-- Source: the Fortran M report (RECEIVE, PROBE), with this profile's limits.
use Rattle.std.specs.Prelude.{Bool, true, false, cond, Option, Some, None, List, [], ◌∷◌}
use Rattle.fm_base.specs.Channels.{Message, Chan, Limits, Pop, Look, can_pop, is_ready, gives, exceeds, tells}
use Rattle.fm_chan.specs.declared.message.Got.{Got}
use Rattle.fm_chan.specs.declared.message.Got.TheVariants as got

-- a message, or the end of the channel
abbrev pub got_of : Option Message → Got
got_of None = got.End
got_of (Some m) = got.Message m

-- where the receive is ready, a message that exceeds the limits, or one that doesn't, or the end; else a wait
abbrev pub got_from : Limits → Chan → Got
got_from limits ch = cond (is_ready (Pop limits) ch) (cond (exceeds (Pop limits) ch) got.Exceeds (got_of (gives (Pop limits) ch))) got.Wait

-- what it gets at a port's channel, if that is there
abbrev pub got_at : Limits → Option Chan → Got
got_at limits None = got.Wait
got_at limits (Some ch) = got_from limits ch

-- whether it is a message
abbrev pub brings : Got → Bool
brings (got.Message m) = true
brings got.Exceeds = false
brings got.Wait = false
brings got.End = false

-- the first of the messages, oldest first
abbrev pub oldest : List Message → Option Message
oldest [] = None
oldest (m ∷ ms) = Some m

-- what stands first in a port's channel, if that is there
abbrev pub first_at : Option Chan → Option Message
first_at None = None
first_at (Some ch) = oldest ch.queue

-- whether a receive has its step at a port's channel, if that is there
abbrev pub pops_at : Option Chan → Bool
pops_at None = false
pops_at (Some ch) = can_pop ch.queue ch.writers

-- whether a receive would wait there
abbrev pub waits_at : Option Chan → Bool
waits_at None = true
waits_at (Some ch) = tells Look ch
