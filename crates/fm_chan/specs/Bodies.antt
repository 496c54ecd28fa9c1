-- The channels of a run, as plain data.
-- Source: this profile.
use Rattle.fm_base.specs.Channels.{Chans}
use Rattle.fm_chan.specs.declared.channels.Channels.{Channels}
use Rattle.fm_chan.specs.Kept.{chans_in}

-- the channels by their names
unfoldable pub chans_of : Channels → Chans
chans_of s = chans_in s.bodies
