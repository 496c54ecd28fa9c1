-- What is kept behind the channels' names, as plain data.
-- Source: this profile.
use Rattle.std.specs.Prelude.{List, [], is_some, Option, Some, None}
use Rattle.fm_base.specs.declared.path.ChanName.{ChanName}
use Rattle.fm_base.specs.PathOrder.{channel_cmp}
use Rattle.fm_base.specs.Channels.{Message, Chan, Chans}
use Rattle.fm_finmap.specs.Map.{map_of, map_values}
use Rattle.fm_chan.specs.declared.body.Body.{Body}
use Rattle.fm_chan.specs.declared.body.Inport.{Inport}

-- what waits at the inport
abbrev pub waiting : Option Inport → List Message
waiting None = []
waiting (Some i) = i.queue.items

-- the channel of a body
abbrev pub chan_of : Body → Chan
chan_of b = record { queue = waiting b.inport; writers = b.writers.keys; lives = is_some b.inport }

-- bodies with their names
abbrev pub Named : Type 0
Named = List (ChanName × Body)

-- the channels of bodies, by their names
unfoldable pub chans_in : Named → Chans
chans_in bodies = map_values chan_of (map_of channel_cmp bodies)
