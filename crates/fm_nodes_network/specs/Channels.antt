-- The channels in memory, by their names.
-- Source: this profile.
use Rattle.std.specs.Prelude.{List, Option, Some, None}
use Rattle.std.specs.FinMap as map
use Rattle.fm_base.specs.declared.path.ChanName.{ChanName}
use Rattle.fm_base.specs.PathOrder.{channel_cmp}
use Rattle.fm_finmap.specs.Map.{map_of, map_values}
use Rattle.fm_link_law.specs.Channels.{LinkedChans}
use Rattle.fm_nodes_network.specs.declared.channel.Channel.{Channel}
use Rattle.fm_nodes_network.specs.declared.channels.Channels.{Channels}
use Rattle.fm_nodes_network.specs.Channel.{linked_of, HasRoom}

-- channels in memory, each with its name
abbrev pub Named : Type 0
Named = List (ChanName × Channel)

-- and as plain data
unfoldable pub linked_chans_in : Named → LinkedChans
linked_chans_in named = map_values linked_of (map_of channel_cmp named)

-- all channels as plain data
abbrev pub linked_chans_of : Channels → LinkedChans
linked_chans_of s = linked_chans_in s.by_name

-- there is room for a message at the channel of this name, and where there is none, none is needed
abbrev pub RoomAt : Option Channel → Type 0
RoomAt None = Unit {0}
RoomAt (Some c) = HasRoom c

-- so at this name
unfoldable pub HasRoomIn : Named → ChanName → Type 0
HasRoomIn named c = RoomAt (map.get (map_of channel_cmp named) c)
