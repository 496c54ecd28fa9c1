-- Room for one more message, taken before it is sent.
-- Source: this profile.
use Rattle.std.specs.Prelude.{◌≢◌, ◌<◌, Option, Some, None}
use Rattle.std.specs.FinMap as map
use Rattle.fm_base.specs.declared.path.ChanName.{ChanName}
use Rattle.fm_base.specs.PathOrder.{channel_cmp}
use Rattle.fm_finmap.specs.Map.{map_of}
use Rattle.fm_chan.specs.declared.body.Body.{Body}
use Rattle.fm_chan.specs.declared.body.Inport.{Inport}
use Rattle.fm_chan.specs.declared.channels.Channels.{Channels}
use Rattle.fm_chan.specs.Kept.{Named}

-- one more message has its place at the inport; where that is gone, none needs one
abbrev pub IsRoomyAt : Option Inport → Type 0
IsRoomyAt None = Unit {0}
IsRoomyAt (Some i) = i.queue.len < i.queue.cap

abbrev pub IsRoomy : Body → Type 0
IsRoomy b = IsRoomyAt b.inport

-- and where there is no channel, none needs one either
abbrev pub RoomAt : Option Body → Type 0
RoomAt None = Unit {0}
RoomAt (Some b) = IsRoomy b

-- among bodies, that of this name has room for one more message
unfoldable pub HasRoomIn : Named → ChanName → Type 0
HasRoomIn bodies c = RoomAt (map.get (map_of channel_cmp bodies) c)

abbrev pub KeepsRoomIn : Named → Named → Type 0
KeepsRoomIn old new = (c : ChanName) → HasRoomIn old c → HasRoomIn new c

abbrev pub KeepsOthersRoomIn : ChanName → Named → Named → Type 0
KeepsOthersRoomIn c old new = (d : ChanName) → (d ≢ c) → HasRoomIn old d → HasRoomIn new d

-- the channel of this name has room for one more message
unfoldable pub HasRoom : Channels → ChanName → Type 0
HasRoom s c = HasRoomIn s.bodies c

-- each channel that had room has it still
abbrev pub KeepsRoom : Channels → Channels → Type 0
KeepsRoom old new = (c : ChanName) → HasRoom old c → HasRoom new c

-- and so has each but this one
abbrev pub KeepsOthersRoom : ChanName → Channels → Channels → Type 0
KeepsOthersRoom c old new = (d : ChanName) → (d ≢ c) → HasRoom old d → HasRoom new d
