-- A channel of hosts as a link with its history.
-- Source: this profile; that the loads taken are a prefix of those pushed is what the literature on networks calls the safety of a link.
use Rattle.std.specs.Prelude.{◌≡◌, ℕ, Option, Some, None, List, [], ◌∷◌}
use Rattle.std.specs.FinMap as finite
use Rattle.std.specs.List.{slice_get}
use Rattle.fm_base.specs.declared.path.ChanName.{ChanName}
use Rattle.fm_net.specs.Language.{Language}
use Rattle.fm_link.specs.declared.load.Packet.{Packet}
use Rattle.fm_link.specs.Ends.{Outgoing, Incoming, fresh_outgoing, fresh_incoming}
use Rattle.fm_link.specs.Link.{Link, LinkEvent, fresh_link, link_after, link_lists, IsPrefixOf}
use Rattle.fm_link_law.specs.Channels.{LinkedChan}
use Rattle.fm_link_law.specs.Hosts.{Hosts, Thing, SentPacket, SentAck, Carried}
use Rattle.fm_link_law.specs.Play.{HostEvent, hosts_after}
use Rattle.fm_link_channels.specs.Events.{AreAllOf}

-- the ends of a channel; before it is made, nothing has happened at them
abbrev pub outgoing_at : Option LinkedChan → Outgoing
outgoing_at None = fresh_outgoing
outgoing_at (Some l) = l.outgoing

abbrev pub incoming_at : Option LinkedChan → Incoming
incoming_at None = fresh_incoming
incoming_at (Some l) = l.incoming

-- the thing is one of these packets, or one of these acknowledgements
abbrev pub IsAmong : List Packet → List ℕ → Thing → Type 0
IsAmong ps ns (SentPacket p) = (k : ℕ) × (slice_get ps k ≡ Some p)
IsAmong ps ns (SentAck n) = (k : ℕ) × (slice_get ns k ≡ Some n)

-- so is all that is on the wire over the channel
abbrev pub AreAmong : ChanName → List Packet → List ℕ → List Carried → Type 0
AreAmong c ps ns [] = Unit {0}
AreAmong c ps ns (e ∷ es) = (e.0 ≡ c → IsAmong ps ns e.1) × AreAmong c ps ns es

-- the link has the two ends of the channel, and what is on the wire was sent over it
pub record IsLinkAt {Proc : Type 0} (c : ChanName) (h : Hosts Proc) (l : Link) : Type 0 where
  pub outgoing : l.outgoing ≡ outgoing_at (finite.get h.channels c)
  pub incoming : l.incoming ≡ incoming_at (finite.get h.channels c)
  pub wire : AreAmong c l.packets l.acks h.wire

-- the events at the hosts, cut to the channel, are events of a link whose two ends are the channel's; what its reader took is a prefix
-- of what its writer pushed
pub record GoesByLink {Proc : Type 0} (language : Language Proc) (h : Hosts Proc) (es : List HostEvent) (c : ChanName) : Type 0 where
  pub events : List LinkEvent
  pub are_all : AreAllOf language c h fresh_link es events
  pub ends : IsLinkAt c (hosts_after language h es) (link_after events)
  pub in_order : IsPrefixOf (link_lists events).taken (link_lists events).pushed
