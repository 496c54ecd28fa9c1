-- What becomes of a load at which a process receives.
-- Source: the Fortran M report (RECEIVE), with this profile's limits of sized messages.
use Rattle.std.specs.Prelude.{Bool, false, map}
use Rattle.fm_base.specs.Channels.{Limits, Words, fits_limits}
use Rattle.fm_link.specs.declared.load.Load.{Load}
use Rattle.fm_link.specs.declared.load.Load.TheVariants as load

-- whether a load is taken: a message within the limits is, one that exceeds them isn't, and the end stays
abbrev pub takes_of : Limits → Load → Bool
takes_of limits (load.Words ws) = fits_limits limits (map Words ws)
takes_of limits load.Close = false
