-- A channel in memory as the two ends of its link.
-- Source: this profile.
use Rattle.std.specs.Prelude.{◌+◌, ◌^◌, ◌<◌, ◌≤◌, Bool, true, false, Option, Some, None, List, [], ◌∷◌}
use Rattle.fm_link.specs.Ends.{pushes, behind_first}
use Rattle.fm_link.specs.Boxes.{outgoing_of, incoming_of, room_of}
use Rattle.fm_link.specs.declared.load.Load.{Load}
use Rattle.fm_link_law.specs.Channels.{LinkedChan, loads_left}
use Rattle.fm_nodes_network.specs.declared.channel.Channel.{Channel}

-- the two ends, and whether each lives, as plain data
abbrev pub linked_of : Channel → LinkedChan
linked_of c = record { outgoing = outgoing_of c.outbox; incoming = incoming_of c.inbox; is_open = c.is_open; lives = c.lives }

-- without the oldest load that has arrived
abbrev pub with_first_taken : LinkedChan → LinkedChan
with_first_taken l = record { outgoing = l.outgoing; incoming = behind_first l.incoming; is_open = l.is_open; lives = l.lives }

-- there is room for a message, and for the end behind it
pub record HasRoom (c : Channel) : Type 0 where
  pub room : 2 ≤ room_of c.outbox
  pub few : pushes (outgoing_of c.outbox) + 1 < 2 ^ 63

-- something is there
abbrev pub is_some_left : List Load → Bool
is_some_left [] = false
is_some_left (x ∷ xs) = true

-- a load was pushed that wasn't taken
abbrev pub is_left : LinkedChan → Bool
is_left l = is_some_left (loads_left l)

abbrev pub is_left_at : Option LinkedChan → Bool
is_left_at None = false
is_left_at (Some l) = is_left l
