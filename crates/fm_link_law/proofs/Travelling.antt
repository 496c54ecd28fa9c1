-- What the network does changes nothing of the state for which the hosts stand.
use Rattle.std.proofs.Common.{◌≡◌, ℕ, zero, suc, Bool, true, false, cond, List, [], ◌∷◌, ◌++◌, filter, slice_get, Option, Some, None, option_map, refl, sym, ap, subst, ◌∙◌, arith}
use Rattle.std.specs.FinMap as map
use Rattle.fm_base.specs.declared.path.ChanName.{ChanName}
use Rattle.fm_finmap.specs.Changes.{adjust}
use Rattle.fm_finmap.proofs.Keys.{channel_order}
use Rattle.fm_finmap.proofs.Adjusts.{adjust-insert}
use Rattle.fm_finmap.proofs.Maps.{map_values-same}
use Rattle.fm_link.specs.declared.load.Packet.{Packet}
use Rattle.fm_link.specs.Ends.{packet_of}
use Rattle.fm_link.proofs.Queues.{sent_is_packet}
use Rattle.fm_link_law.specs.Channels.{LinkedChan, LinkedChans, chan_of, chans_of}
use Rattle.fm_link_law.specs.Hosts.{Hosts, SentPacket, SentAck, Carried, state_of, IsTrueOf, IsTrueAt, AreTrue, IsSound, thing_comes, without_at, with_thing, packet_at, sent, answered, brought, delivered, lost, restarted}
use Rattle.fm_link_law.proofs.Carrying.{comes_is_linked, comes_chan, comes_keeps}
use Rattle.fm_link_law.proofs.Adjusting.{AreLinked-adjust, AreTrue-adjust}

AreTrue-push : (ls : LinkedChans) (es : List Carried) (e : Carried) → AreTrue ls es → IsTrueAt ls e → AreTrue ls (es ++ e ∷ [])
AreTrue-push ls [] e all here = (here, tt)
AreTrue-push ls (f ∷ es) e all here = (all.0, AreTrue-push ls es e all.1 here)

AreTrue-at : (ls : LinkedChans) (es : List Carried) (i : ℕ) (e : Carried) → AreTrue ls es → slice_get es i ≡ Some e → IsTrueAt ls e
AreTrue-at ls [] i e all is = absurd (cc is)
AreTrue-at ls (f ∷ es) zero e all is = subst (IsTrueAt ls) (the_thing f is) all.0
  where
    the_thing : (f : Carried) → Some f ≡ Some e → f ≡ e
    the_thing f is = cc
AreTrue-at ls (f ∷ es) (suc i) e all is = AreTrue-at ls es i e all.1 is

AreTrue-without : (ls : LinkedChans) (es : List Carried) (i : ℕ) → AreTrue ls es → AreTrue ls (without_at es i)
AreTrue-without ls [] i all = tt
AreTrue-without ls (f ∷ es) zero all = all.1
AreTrue-without ls (f ∷ es) (suc i) all = (all.0, AreTrue-without ls es i all.1)

AreTrue-filter : (ls : LinkedChans) (stays : Carried → Bool) (es : List Carried) → AreTrue ls es → AreTrue ls (filter stays es)
AreTrue-filter ls stays [] all = tt
AreTrue-filter ls stays (e ∷ es) all = go (stays e) (AreTrue-filter ls stays es all.1)
  where
    go : (b : Bool) → AreTrue ls (filter stays es) → AreTrue ls (cond b (e ∷ filter stays es) (filter stays es))
    go true rest = (all.0, rest)
    go false rest = rest

-- the state is the same, and what holds between two events still does
pub record IsStill {Proc : Type 0} (h later : Hosts Proc) : Type 0 where
  pub same : state_of later ≡ state_of h
  pub sound : IsSound later

module _ {Proc : Type 0} (h : Hosts Proc) (sound : IsSound h) where
  put_still : (e : Carried) → IsTrueAt h.channels e → IsStill h (with_thing h e)
  put_still e here = record { same = refl; sound = record { channels = sound.channels; wire = AreTrue-push h.channels h.wire e sound.wire here } }

  the_later : (a b : Hosts Proc) → Some a ≡ Some b → a ≡ b
  the_later a b e = cc

  pub sent_still : (c : ChanName) (k : ℕ) (later : Hosts Proc) → sent h c k ≡ Some later → IsStill h later
  sent_still c k later e = go (map.get h.channels c) refl e
    where
      found : (l : LinkedChan) → map.get h.channels c ≡ Some l → (o : Option Packet) → packet_of l.outgoing k ≡ o → option_map (λ p. with_thing h (c, SentPacket p)) o ≡ Some later → IsStill h later
      found l is None has e = absurd (cc e)
      found l is (Some p) has e = subst (IsStill h) (the_later (with_thing h (c, SentPacket p)) later e) (put_still (c, SentPacket p) (l, is, sent_is_packet l.outgoing k p has))

      go : (o : Option LinkedChan) → map.get h.channels c ≡ o → option_map (λ p. with_thing h (c, SentPacket p)) (packet_at o k) ≡ Some later → IsStill h later
      go None is e = absurd (cc e)
      go (Some l) is e = found l is (packet_of l.outgoing k) refl e

  pub answered_still : (c : ChanName) (later : Hosts Proc) → answered h c ≡ Some later → IsStill h later
  answered_still c later e = go (map.get h.channels c) refl e
    where
      go : (o : Option LinkedChan) → map.get h.channels c ≡ o → option_map (λ (l : LinkedChan). with_thing h (c, SentAck l.incoming.arrived)) o ≡ Some later → IsStill h later
      go None is e = absurd (cc e)
      go (Some l) is e = subst (IsStill h) (the_later (with_thing h (c, SentAck l.incoming.arrived)) later e) (put_still (c, SentAck l.incoming.arrived) (l, is, omega arith))

  brought_still : (e : Carried) → IsTrueAt h.channels e → IsStill h (brought h e)
  brought_still e here = record {
    same = λ i. record { procs = h.procs; chans = same_chans i };
    sound = record {
      channels = AreLinked-adjust h.channels e.0 (thing_comes e.1) sound.channels (λ l is good. comes_is_linked l good e.1 (true_there l is));
      wire = AreTrue-adjust h.channels e.0 (thing_comes e.1) (λ l t is. comes_keeps l e.1 t) h.wire sound.wire;
    };
  }
    where
      the_linked : (a b : LinkedChan) → Some a ≡ Some b → a ≡ b
      the_linked a b e = cc

      true_there : (l : LinkedChan) → map.get h.channels e.0 ≡ Some l → IsTrueOf l e.1
      true_there l is = subst (λ k. IsTrueOf k e.1) (the_linked here.0 l (sym here.1 ∙ is)) here.2

      same_chans : chans_of (adjust h.channels e.0 (thing_comes e.1)) ≡ chans_of h.channels
      same_chans =
          ap chans_of (adjust-insert channel_order h.channels e.0 (thing_comes e.1) here.0 here.1)
          ∙ map_values-same channel_order chan_of h.channels e.0 here.0 (thing_comes e.1 here.0) (sym here.1) (comes_chan here.0 (sound.channels e.0 here.0 here.1) e.1 here.2)

  pub delivered_still : (i : ℕ) (later : Hosts Proc) → delivered h i ≡ Some later → IsStill h later
  delivered_still i later e = go (slice_get h.wire i) refl e
    where
      go : (o : Option Carried) → slice_get h.wire i ≡ o → option_map (brought h) o ≡ Some later → IsStill h later
      go None is e = absurd (cc e)
      go (Some t) is e = subst (IsStill h) (the_later (brought h t) later e) (brought_still t (AreTrue-at h.channels h.wire i t sound.wire is))

  pub lost_still : (i : ℕ) (later : Hosts Proc) → lost h i ≡ Some later → IsStill h later
  lost_still i later e = go (slice_get h.wire i) e
    where
      without : Hosts Proc
      without = record { procs = h.procs; channels = h.channels; wire = without_at h.wire i }

      still : IsStill h without
      still = record { same = refl; sound = record { channels = sound.channels; wire = AreTrue-without h.channels h.wire i sound.wire } }

      go : (o : Option Carried) → option_map (λ (e : Carried). record { procs = h.procs; channels = h.channels; wire = without_at h.wire i }) o ≡ Some later → IsStill h later
      go None e = absurd (cc e)
      go (Some t) e = subst (IsStill h) (the_later without later e) still

  pub restarted_still : (stays : Carried → Bool) → IsStill h (restarted stays h)
  restarted_still stays = record { same = refl; sound = record { channels = sound.channels; wire = AreTrue-filter h.channels stays h.wire sound.wire } }
