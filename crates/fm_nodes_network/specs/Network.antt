-- The channels and the wire in memory, as hosts without processes.
-- Source: this profile.
use Rattle.std.specs.Prelude.{map}
use Rattle.std.specs.FinMap.{empty}
use Rattle.fm_link_law.specs.Hosts as plain
use Rattle.fm_nodes_network.specs.declared.network.Thing as code
use Rattle.fm_nodes_network.specs.declared.network.Thing.TheVariants as thing
use Rattle.fm_nodes_network.specs.declared.network.Carried.{Carried}
use Rattle.fm_nodes_network.specs.declared.network.Network.{Network}
use Rattle.fm_nodes_network.specs.Channels.{linked_chans_of}

-- what travels
abbrev pub thing_of : code.Thing → plain.Thing
thing_of (thing.SentPacket p) = plain.SentPacket p
thing_of (thing.SentAck a) = plain.SentAck a.next

-- and over which channel
abbrev pub carried_of : Carried → plain.Carried
carried_of c = (c.channel, thing_of c.thing)

-- channels and wire, with no process
abbrev pub hosts_of : Network → plain.Hosts (Unit {0})
hosts_of n = record { procs = empty; channels = linked_chans_of n.channels; wire = map carried_of n.wire.items }
