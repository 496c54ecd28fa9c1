-- What was sent over a link stays among what was sent.
use Rattle.std.proofs.Common.{◌≡◌, ℕ, zero, suc, Bool, true, false, cond, List, [], ◌∷◌, ◌++◌, filter, length, slice_get, Option, Some, None, option_to_list, refl, subst}
use Rattle.fm_base.specs.declared.path.ChanName.{ChanName}
use Rattle.fm_link.specs.declared.load.Packet.{Packet}
use Rattle.fm_link.specs.Ends.{packet_of}
use Rattle.fm_link.specs.Link as link
use Rattle.fm_link.specs.Link.{Link, LinkEvent, packet_arrives, ack_arrives, after_all}
use Rattle.fm_link.proofs.Places.{slice_get-append}
use Rattle.fm_link_law.specs.Hosts.{Thing, SentPacket, SentAck, Carried, without_at}
use Rattle.fm_link_channels.specs.Links.{IsAmong, AreAmong}

pub last_at : {X : Type 0} (xs : List X) (x : X) → slice_get (xs ++ x ∷ []) (length xs) ≡ Some x
last_at [] x = refl
last_at (y ∷ xs) x = last_at xs x

-- ---- more is sent

packet_among : (ps qs : List Packet) (ns : List ℕ) (t : Thing) → IsAmong ps ns t → IsAmong (ps ++ qs) ns t
packet_among ps qs ns (SentPacket p) here = (here.0, slice_get-append ps qs here.0 p here.1)
packet_among ps qs ns (SentAck n) here = here

ack_among : (ps : List Packet) (ns ms : List ℕ) (t : Thing) → IsAmong ps ns t → IsAmong ps (ns ++ ms) t
ack_among ps ns ms (SentPacket p) here = here
ack_among ps ns ms (SentAck n) here = (here.0, slice_get-append ns ms here.0 n here.1)

module _ (c : ChanName) where
  pub more_packets : (ps qs : List Packet) (ns : List ℕ) (es : List Carried) → AreAmong c ps ns es → AreAmong c (ps ++ qs) ns es
  more_packets ps qs ns [] all = tt
  more_packets ps qs ns (e ∷ es) all = ((λ same. packet_among ps qs ns e.1 (all.0 same)), more_packets ps qs ns es all.1)

  pub more_acks : (ps : List Packet) (ns ms : List ℕ) (es : List Carried) → AreAmong c ps ns es → AreAmong c ps (ns ++ ms) es
  more_acks ps ns ms [] all = tt
  more_acks ps ns ms (e ∷ es) all = ((λ same. ack_among ps ns ms e.1 (all.0 same)), more_acks ps ns ms es all.1)

  -- whatever happens at the link, what is on the wire was sent over it
  among_next : (l : Link) (e : LinkEvent) (ws : List Carried) → AreAmong c l.packets l.acks ws → AreAmong c (link.happens l e).packets (link.happens l e).acks ws
  among_next l (link.Push x) ws all = all
  among_next l (link.SendPacket k) ws all = more_packets l.packets (option_to_list (packet_of l.outgoing k)) l.acks ws all
  among_next l link.SendAck ws all = more_acks l.packets l.acks (l.incoming.arrived ∷ []) ws all
  among_next l (link.PacketArrives k) ws all = go (slice_get l.packets k)
    where
      go : (o : Option Packet) → AreAmong c (packet_arrives l o).packets (packet_arrives l o).acks ws
      go None = all
      go (Some p) = all
  among_next l (link.AckArrives k) ws all = go (slice_get l.acks k)
    where
      go : (o : Option ℕ) → AreAmong c (ack_arrives l o).packets (ack_arrives l o).acks ws
      go None = all
      go (Some n) = all
  among_next l link.Take ws all = all

  pub among_after : (es : List LinkEvent) (l : Link) (ws : List Carried) → AreAmong c l.packets l.acks ws → AreAmong c (after_all l es).packets (after_all l es).acks ws
  among_after [] l ws all = all
  among_after (e ∷ es) l ws all = among_after es (link.happens l e) ws (among_next l e ws all)

  -- ---- the wire changes

  module _ (ps : List Packet) (ns : List ℕ) where
    pub among_push : (es : List Carried) (e : Carried) → AreAmong c ps ns es → (e.0 ≡ c → IsAmong ps ns e.1) → AreAmong c ps ns (es ++ e ∷ [])
    among_push [] e all here = (here, tt)
    among_push (f ∷ es) e all here = (all.0, among_push es e all.1 here)

    pub among_at : (es : List Carried) (i : ℕ) (e : Carried) → AreAmong c ps ns es → slice_get es i ≡ Some e → e.0 ≡ c → IsAmong ps ns e.1
    among_at [] i e all is = absurd (cc is)
    among_at (f ∷ es) zero e all is = subst (λ (k : Carried). k.0 ≡ c → IsAmong ps ns k.1) (the_thing f is) all.0
      where
        the_thing : (f : Carried) → Some f ≡ Some e → f ≡ e
        the_thing f is = cc
    among_at (f ∷ es) (suc i) e all is = among_at es i e all.1 is

    pub among_without : (es : List Carried) (i : ℕ) → AreAmong c ps ns es → AreAmong c ps ns (without_at es i)
    among_without [] i all = tt
    among_without (f ∷ es) zero all = all.1
    among_without (f ∷ es) (suc i) all = (all.0, among_without es i all.1)

    pub among_filter : (stays : Carried → Bool) (es : List Carried) → AreAmong c ps ns es → AreAmong c ps ns (filter stays es)
    among_filter stays [] all = tt
    among_filter stays (e ∷ es) all = go (stays e) (among_filter stays es all.1)
      where
        go : (b : Bool) → AreAmong c ps ns (filter stays es) → AreAmong c ps ns (cond b (e ∷ filter stays es) (filter stays es))
        go true rest = (all.0, rest)
        go false rest = rest
