-- Items of a message in memory, as the meaning's items.
-- Source: the Fortran M report (messages), with this profile's words for values and ports.
use Rattle.std.specs.Prelude.{List, map}
use Rattle.fm_base.specs.Channels as channels
use Rattle.fm_plain_passing.specs.declared.item.Item.{Item}
use Rattle.fm_plain_passing.specs.declared.item.Item.TheVariants.{Words, Ports}

abbrev pub item_of : Item → channels.Item
item_of (Words ws) = channels.Words ws
item_of (Ports ps) = channels.Ports ps

abbrev pub message_of : List Item → channels.Message
message_of m = map item_of m
