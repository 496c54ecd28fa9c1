-- What the network does at a channel are events of its link.
use Rattle.std.proofs.Common.{◌≡◌, ℕ, Bool, true, false, cond, List, [], ◌∷◌, ◌++◌, length, slice_get, Option, Some, None, option_map, option_to_list, refl, sym, ap, subst, ◌∙◌}
use Rattle.std.specs.FinMap as finite
use Rattle.std.specs.Ordering.{eq_by_cmp}
use Rattle.fm_base.specs.PathOrder.{channel_cmp}
use Rattle.fm_base.specs.declared.path.ChanName.{ChanName}
use Rattle.fm_finmap.specs.Changes.{adjust}
use Rattle.fm_finmap.proofs.Keys.{channel_order, decide, tie, tie_self}
use Rattle.fm_finmap.proofs.Adjusts.{adjust_here, adjust_there}
use Rattle.fm_link.specs.declared.load.Packet.{Packet}
use Rattle.fm_link.specs.Ends.{Outgoing, Incoming, packet_of, acked_by, with_packet}
use Rattle.fm_link.specs.Link as link
use Rattle.fm_link.specs.Link.{Link, LinkEvent, packet_arrives, ack_arrives, after_all}
use Rattle.fm_link_law.specs.Channels.{LinkedChan}
use Rattle.fm_link_law.specs.Hosts.{Hosts, Thing, SentPacket, SentAck, Carried, thing_comes, without_at, with_thing, packet_at, sent, answered, brought, lost, restarted}
use Rattle.fm_link_law.specs.Play.{came_of}
use Rattle.fm_link_channels.specs.Events.{where_same, answer_events, IsArrival, IsArrivalAt, IsBroughtAt}
use Rattle.fm_link_channels.specs.Links.{outgoing_at, incoming_at, IsAmong, IsLinkAt}
use Rattle.fm_link_channels.proofs.Sent.{last_at, more_packets, more_acks, among_after, among_push, among_at, among_without, among_filter}
use Rattle.fm_link_channels.proofs.Ends.{AreEndsOf}

packet_there : (k : ℕ) (o : Option LinkedChan) → packet_at o k ≡ packet_of (outgoing_at o) k
packet_there k None = refl
packet_there k (Some l) = refl

-- ---- a thing that was sent comes to its end

module _ (l : Link) where
  -- the events, which are those of an arrival at the channel, and the ends behind them
  record Arrival (t : Thing) (o : Option LinkedChan) : Type 0 where
    events : List LinkEvent
    are : IsArrivalAt l t o events
    ends : AreEndsOf (option_map (thing_comes t) o) (after_all l events)

  arrives : (t : Thing) (o : Option LinkedChan) → IsAmong l.packets l.acks t → AreEndsOf o l → Arrival t o
  arrives t None here ends = record { events = []; are = refl; ends = ends }
  arrives (SentPacket p) (Some k) here ends = let at = go k.lives in record { events = at.0; are = at.1; ends = at.2 }
    where
      with_it : Option LinkedChan
      with_it = Some (record { outgoing = k.outgoing; incoming = with_packet k.incoming p; is_open = k.is_open; lives = k.lives })

      taken : AreEndsOf with_it (packet_arrives l (Some p))
      taken = record { outgoing = ends.outgoing; incoming = ap (λ (i : Incoming). with_packet i p) ends.incoming }

      go : (b : Bool) → (es : List LinkEvent) × IsArrival l (SentPacket p) b es
          × AreEndsOf (Some (cond b (record { outgoing = k.outgoing; incoming = with_packet k.incoming p; is_open = k.is_open; lives = k.lives }) k)) (after_all l es)
      go true = (link.PacketArrives here.0 ∷ [], (here.0, here.1, refl), subst (λ (o : Option Packet). AreEndsOf with_it (packet_arrives l o)) (sym here.1) taken)
      go false = ([], refl, ends)
  arrives (SentAck n) (Some k) here ends = record {
    events = link.AckArrives here.0 ∷ [];
    are = (here.0, here.1, refl);
    ends = subst (λ (o : Option ℕ). AreEndsOf (Some (record { outgoing = acked_by k.outgoing n; incoming = k.incoming; is_open = k.is_open; lives = k.lives })) (ack_arrives l o)) (sym here.1)
        (record { outgoing = ap (λ (o : Outgoing). acked_by o n) ends.outgoing; incoming = ends.incoming });
  }

module _ {Proc : Type 0} (h : Hosts Proc) (c : ChanName) (l : Link) (at : IsLinkAt c h l) where
  apart : (d : ChanName) → eq_by_cmp channel_cmp c d ≡ false → d ≡ c → ⊥
  apart d e same = cc (sym e ∙ ap (λ z. eq_by_cmp channel_cmp c z) same ∙ tie_self channel_order c)

  -- what is put on the wire over another channel
  put_elsewhere : (e : Carried) → (e.0 ≡ c → ⊥) → IsLinkAt c (with_thing h e) l
  put_elsewhere e off = record { outgoing = at.outgoing; incoming = at.incoming; wire = among_push c l.packets l.acks h.wire e at.wire (λ same. absurd (off same)) }

  came_elsewhere : {X : Type 0} (f : X → Carried) → ((x : X) → (f x).0 ≡ c → ⊥) → (o : Option X) → IsLinkAt c (came_of h (option_map (λ x. with_thing h (f x)) o)).hosts l
  came_elsewhere f off None = at
  came_elsewhere f off (Some x) = put_elsewhere (f x) (off x)

  -- ---- sending

  pub sent_link : (d : ChanName) (k : ℕ) → IsLinkAt c (came_of h (sent h d k)).hosts (after_all l (where_same c d (link.SendPacket k ∷ [])))
  sent_link d k = go (eq_by_cmp channel_cmp c d) refl
    where
      here : (o : Option Packet) → IsLinkAt c (came_of h (option_map (λ p. with_thing h (d, SentPacket p)) o)).hosts (record l { packets = l.packets ++ option_to_list o })
      here None = record { outgoing = at.outgoing; incoming = at.incoming; wire = more_packets c l.packets [] l.acks h.wire at.wire }
      here (Some p) = record {
        outgoing = at.outgoing;
        incoming = at.incoming;
        wire = among_push c (l.packets ++ p ∷ []) l.acks h.wire (d, SentPacket p) (more_packets c l.packets (p ∷ []) l.acks h.wire at.wire) (λ same. (length l.packets, last_at l.packets p));
      }

      same_packet : c ≡ d → packet_of l.outgoing k ≡ packet_at (finite.get h.channels d) k
      same_packet same =
          ap (λ (o : Outgoing). packet_of o k) at.outgoing ∙ sym (packet_there k (finite.get h.channels c)) ∙ ap (λ (q : ChanName). packet_at (finite.get h.channels q) k) same

      go : (b : Bool) → eq_by_cmp channel_cmp c d ≡ b → IsLinkAt c (came_of h (sent h d k)).hosts (after_all l (cond b (link.SendPacket k ∷ []) []))
      go true e =
          subst (λ (o : Option Packet). IsLinkAt c (came_of h (option_map (λ p. with_thing h (d, SentPacket p)) o)).hosts (link.happens l (link.SendPacket k)))
          (same_packet (tie channel_order c d e)) (here (packet_of l.outgoing k))
      go false e = came_elsewhere (λ (p : Packet). (d, SentPacket p)) (λ p. apart d e) (packet_at (finite.get h.channels d) k)

  -- ---- answering

  pub answered_link : (d : ChanName) → IsLinkAt c (came_of h (answered h d)).hosts (after_all l (where_same c d (answer_events (finite.get h.channels c))))
  answered_link d = go (eq_by_cmp channel_cmp c d) refl
    where
      here : (o : Option LinkedChan) → l.incoming ≡ incoming_at o
          → IsLinkAt c (came_of h (option_map (λ (k : LinkedChan). with_thing h (d, SentAck k.incoming.arrived)) o)).hosts (after_all l (answer_events o))
      here None same = at
      here (Some k) same = record {
        outgoing = at.outgoing;
        incoming = at.incoming;
        wire = among_push c l.packets (l.acks ++ l.incoming.arrived ∷ []) h.wire (d, SentAck k.incoming.arrived) (more_acks c l.packets l.acks (l.incoming.arrived ∷ []) h.wire at.wire)
            (λ is. (length l.acks, last_at l.acks l.incoming.arrived ∙ ap (λ (i : Incoming). Some i.arrived) same));
      }

      go : (b : Bool) → eq_by_cmp channel_cmp c d ≡ b → IsLinkAt c (came_of h (answered h d)).hosts (after_all l (cond b (answer_events (finite.get h.channels c)) []))
      go true e =
          subst (λ (q : ChanName). IsLinkAt c (came_of h (option_map (λ (k : LinkedChan). with_thing h (d, SentAck k.incoming.arrived)) (finite.get h.channels q))).hosts
          (after_all l (answer_events (finite.get h.channels c)))) (tie channel_order c d e) (here (finite.get h.channels c) at.incoming)
      go false e = came_elsewhere (λ (k : LinkedChan). (d, SentAck k.incoming.arrived)) (λ k. apart d e) (finite.get h.channels d)

  -- ---- bringing

  -- the events, which are those of what is brought, and the link behind them
  pub record Brought (o : Option Carried) : Type 0 where
    pub events : List LinkEvent
    pub are : IsBroughtAt c l h.channels o events
    pub link_is : IsLinkAt c (came_of h (option_map (brought h) o)).hosts (after_all l events)

  one_brought : (e : Carried) → (e.0 ≡ c → IsAmong l.packets l.acks e.1) → Brought (Some e)
  one_brought e was = go (decide channel_order e.0 c)
    where
      later : Option LinkedChan
      later = finite.get (adjust h.channels e.0 (thing_comes e.1)) c

      go : Dec (e.0 ≡ c) → Brought (Some e)
      go (yes same) =
          let there : later ≡ option_map (thing_comes e.1) (finite.get h.channels c) =
          subst (λ (q : ChanName). finite.get (adjust h.channels e.0 (thing_comes e.1)) q ≡ option_map (thing_comes e.1) (finite.get h.channels q)) same
          (adjust_here channel_order h.channels e.0 (thing_comes e.1)) in
          let a = arrives l e.1 (finite.get h.channels c) (was same) (record { outgoing = at.outgoing; incoming = at.incoming }) in
          record {
            events = a.events;
            are = record { here = λ is. a.are; elsewhere = λ off. absurd (off same) };
            link_is = record {
              outgoing = a.ends.outgoing ∙ ap outgoing_at (sym there);
              incoming = a.ends.incoming ∙ ap incoming_at (sym there);
              wire = among_after c a.events l h.wire at.wire;
            };
          }
      go (no n) =
          let there : later ≡ finite.get h.channels c = adjust_there channel_order h.channels e.0 (thing_comes e.1) c (λ is. n (sym is)) in
          record {
            events = [];
            are = record { here = λ is. absurd (n is); elsewhere = λ off. refl };
            link_is = record { outgoing = at.outgoing ∙ ap outgoing_at (sym there); incoming = at.incoming ∙ ap incoming_at (sym there); wire = at.wire };
          }

  pub brings : (i : ℕ) → Brought (slice_get h.wire i)
  brings i = go (slice_get h.wire i) refl
    where
      go : (o : Option Carried) → slice_get h.wire i ≡ o → Brought o
      go None is = record { events = []; are = refl; link_is = at }
      go (Some e) is = one_brought e (among_at c l.packets l.acks h.wire i e at.wire is)

  -- ---- losing

  pub lost_link : (i : ℕ) → IsLinkAt c (came_of h (lost h i)).hosts l
  lost_link i = go (slice_get h.wire i)
    where
      go : (o : Option Carried) → IsLinkAt c (came_of h (option_map (λ (e : Carried). record { procs = h.procs; channels = h.channels; wire = without_at h.wire i }) o)).hosts l
      go None = at
      go (Some e) = record { outgoing = at.outgoing; incoming = at.incoming; wire = among_without c l.packets l.acks h.wire i at.wire }

  pub restarted_link : (stays : Carried → Bool) → IsLinkAt c (restarted stays h) l
  restarted_link stays = record { outgoing = at.outgoing; incoming = at.incoming; wire = among_filter c l.packets l.acks stays h.wire at.wire }
