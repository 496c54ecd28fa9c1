-- What holds of a link after any events.
use Rattle.std.proofs.Common.{◌≡◌, ℕ, zero, suc, ◌+◌, ◌-◌, ◌≤◌, Bool, true, false, cond, ◌==◌, List, [], ◌∷◌, ◌++◌, length, drop, slice_get, Option, Some, None, option_to_list, refl, sym, ap, subst, ◌∙◌, arith, append_assoc, length-append, length-drop, append-nil}
use Rattle.std.proofs.lemmas.List.{drop-drop, drop-append-le}
use Rattle.fm_link.specs.declared.load.Load.{Load}
use Rattle.fm_link.specs.declared.load.Packet.{Packet}
use Rattle.fm_link.specs.Ends.{pushes, with_load, packet_of, is_news, acked_by, with_packet, first_of, behind_first}
use Rattle.fm_link.specs.Link.{Link, LinkEvent, Push, SendPacket, SendAck, PacketArrives, AckArrives, Take, fresh_link, packet_arrives, ack_arrives, happens, after_all, link_after, IsPrefixOf, HoldTheRest, AreEnds, IsPacketOf, IsAckOf, unread}
use Rattle.fm_link.proofs.Queues.{first_ends, push_keeps, push_keeps_packet, sent_is_packet, arrive_keeps, arrive_keeps_ack, acked_keeps, acked_keeps_packet, take_keeps, TellsNews, news_tell}

-- the fact holds of all in the list
abbrev AllIn : {X : Type 0} → (X → Type 0) → List X → Type 0
AllIn Fact [] = Unit {0}
AllIn Fact (x ∷ xs) = Fact x × AllIn Fact xs

all_more : {X : Type 0} (Fact : X → Type 0) (xs : List X) (o : Option X) → AllIn Fact xs → ((x : X) → o ≡ Some x → Fact x) → AllIn Fact (xs ++ option_to_list o)
all_more Fact [] None all more = tt
all_more Fact [] (Some x) all more = (more x refl, tt)
all_more Fact (x ∷ xs) o all more = (all.0, all_more Fact xs o all.1 more)

all_map : {X : Type 0} (Fact Other : X → Type 0) → ((x : X) → Fact x → Other x) → (xs : List X) → AllIn Fact xs → AllIn Other xs
all_map Fact Other on [] all = tt
all_map Fact Other on (x ∷ xs) all = (on x all.0, all_map Fact Other on xs all.1)

all_at : {X : Type 0} (Fact : X → Type 0) (xs : List X) (k : ℕ) (x : X) → AllIn Fact xs → slice_get xs k ≡ Some x → Fact x
all_at Fact [] k x all is = absurd (cc is)
all_at Fact (y ∷ ys) zero x all is = subst Fact (the_item y x is) all.0
  where
    the_item : {X : Type 0} (y x : X) → Some y ≡ Some x → y ≡ x
    the_item y x is = cc
all_at Fact (y ∷ ys) (suc k) x all is = all_at Fact ys k x all.1 is

-- after any events
record IsSound (l : Link) : Type 0 where
  ends : AreEnds l.outgoing l.incoming
  packets : AllIn (IsPacketOf l.outgoing) l.packets
  acks : AllIn (IsAckOf l.incoming) l.acks
  rest : HoldTheRest l
  whole : l.taken ++ unread l.outgoing l.incoming ≡ l.pushed

fresh_sound : IsSound fresh_link
fresh_sound = record {
  ends = first_ends;
  packets = tt;
  acks = tt;
  rest = record { waiting_out = refl; numbered = refl; waiting_in = refl; counted = refl };
  whole = refl;
}

push_sound : (l : Link) (x : Load) → IsSound l → IsSound (happens l (Push x))
push_sound l x sound =
    let kept = push_keeps l.outgoing l.incoming x sound.ends in
    record {
      ends = kept.0;
      packets = all_map (IsPacketOf l.outgoing) (IsPacketOf (with_load l.outgoing x)) (λ p is. push_keeps_packet l.outgoing p x is) l.packets sound.packets;
      acks = sound.acks;
      rest = record {
        waiting_out = ap (λ xs. xs ++ x ∷ []) sound.rest.waiting_out ∙ sym (drop-append-le l.outgoing.acknowledged l.pushed (x ∷ []) (omega (arith, sound.rest.numbered)));
        numbered = omega (arith, sound.rest.numbered, length-append l.outgoing.waiting (x ∷ []), length-append l.pushed (x ∷ []));
        waiting_in = sound.rest.waiting_in;
        counted = sound.rest.counted;
      };
      whole = ap (λ xs. l.taken ++ xs) kept.1 ∙ sym (append_assoc l.taken (unread l.outgoing l.incoming) (x ∷ [])) ∙ ap (λ xs. xs ++ x ∷ []) sound.whole;
    }

send_sound : (l : Link) (k : ℕ) → IsSound l → IsSound (happens l (SendPacket k))
send_sound l k sound = record {
  ends = sound.ends;
  packets = all_more (IsPacketOf l.outgoing) l.packets (packet_of l.outgoing k) sound.packets (λ p is. sent_is_packet l.outgoing k p is);
  acks = sound.acks;
  rest = record { waiting_out = sound.rest.waiting_out; numbered = sound.rest.numbered; waiting_in = sound.rest.waiting_in; counted = sound.rest.counted };
  whole = sound.whole;
}

answer_sound : (l : Link) → IsSound l → IsSound (happens l SendAck)
answer_sound l sound = record {
  ends = sound.ends;
  packets = sound.packets;
  acks = all_more (IsAckOf l.incoming) l.acks (Some l.incoming.arrived) sound.acks (λ n is. at_most n is);
  rest = record { waiting_out = sound.rest.waiting_out; numbered = sound.rest.numbered; waiting_in = sound.rest.waiting_in; counted = sound.rest.counted };
  whole = sound.whole;
}
  where
    the_number : (m n : ℕ) → Some m ≡ Some n → m ≡ n
    the_number m n e = cc

    at_most : (n : ℕ) → Some l.incoming.arrived ≡ Some n → n ≤ l.incoming.arrived
    at_most n e = omega (arith, the_number l.incoming.arrived n e)

module _ (l : Link) (p : Packet) (sound : IsSound l) (is : IsPacketOf l.outgoing p) where
  arrived_rest : HoldTheRest (packet_arrives l (Some p))
  arrived_rest = record {
    waiting_out = sound.rest.waiting_out;
    numbered = sound.rest.numbered;
    waiting_in = (go (p.number == l.incoming.arrived)).0;
    counted = (go (p.number == l.incoming.arrived)).1;
  }
    where
      go : (b : Bool)
          → (l.taken ++ (cond b (record { arrived = suc l.incoming.arrived; waiting = l.incoming.waiting ++ p.load ∷ [] }) l.incoming).waiting ≡ l.arrived ++ cond b (p.load ∷ []) [])
          × ((cond b (record { arrived = suc l.incoming.arrived; waiting = l.incoming.waiting ++ p.load ∷ [] }) l.incoming).arrived ≡ length (l.arrived ++ cond b (p.load ∷ []) []))
      go true = (
        sym (append_assoc l.taken l.incoming.waiting (p.load ∷ [])) ∙ ap (λ xs. xs ++ p.load ∷ []) sound.rest.waiting_in,
        omega (arith, sound.rest.counted, length-append l.arrived (p.load ∷ [])),
      )
      go false = (
        sound.rest.waiting_in ∙ sym (append-nil l.arrived),
        omega (arith, sound.rest.counted, length-append l.arrived []),
      )

  packet_sound : IsSound (packet_arrives l (Some p))
  packet_sound =
      let kept = arrive_keeps l.outgoing l.incoming p sound.ends is in
      record {
        ends = kept.0;
        packets = sound.packets;
        acks = all_map (IsAckOf l.incoming) (IsAckOf (with_packet l.incoming p)) (λ n ack. arrive_keeps_ack l.incoming p n ack) l.acks sound.acks;
        rest = arrived_rest;
        whole = ap (λ xs. l.taken ++ xs) kept.1 ∙ sound.whole;
      }

module _ (l : Link) (next : ℕ) (sound : IsSound l) (ack : IsAckOf l.incoming next) where
  acked_rest : HoldTheRest (ack_arrives l (Some next))
  acked_rest = record {
    waiting_out = (go (is_news l.outgoing next) refl).0;
    numbered = (go (is_news l.outgoing next) refl).1;
    waiting_in = sound.rest.waiting_in;
    counted = sound.rest.counted;
  }
    where
      dropped : TellsNews l.outgoing next → drop (next - l.outgoing.acknowledged) l.outgoing.waiting ≡ drop next l.pushed
      dropped news =
          ap (λ xs. drop (next - l.outgoing.acknowledged) xs) sound.rest.waiting_out
          ∙ drop-drop (next - l.outgoing.acknowledged) l.outgoing.acknowledged l.pushed
          ∙ ap (λ n. drop n l.pushed) (omega (arith, news.new))

      counted : TellsNews l.outgoing next → next + length (drop (next - l.outgoing.acknowledged) l.outgoing.waiting) ≡ length l.pushed
      counted news = omega (arith, news.new, news.pushed, sound.rest.numbered, length-drop (next - l.outgoing.acknowledged) l.outgoing.waiting)

      go : (b : Bool) → is_news l.outgoing next ≡ b
          → ((cond b (record { acknowledged = next; waiting = drop (next - l.outgoing.acknowledged) l.outgoing.waiting }) l.outgoing).waiting
          ≡ drop (cond b (record { acknowledged = next; waiting = drop (next - l.outgoing.acknowledged) l.outgoing.waiting }) l.outgoing).acknowledged l.pushed)
          × (pushes (cond b (record { acknowledged = next; waiting = drop (next - l.outgoing.acknowledged) l.outgoing.waiting }) l.outgoing) ≡ length l.pushed)
      go true e = let news = news_tell l.outgoing next e in (dropped news, counted news)
      go false e = (sound.rest.waiting_out, sound.rest.numbered)

  ack_sound : IsSound (ack_arrives l (Some next))
  ack_sound =
      let kept = acked_keeps l.outgoing next l.incoming sound.ends ack in
      record {
        ends = kept.0;
        packets = all_map (IsPacketOf l.outgoing) (IsPacketOf (acked_by l.outgoing next)) (λ p is. acked_keeps_packet l.outgoing next p is) l.packets sound.packets;
        acks = sound.acks;
        rest = acked_rest;
        whole = ap (λ xs. l.taken ++ xs) kept.1 ∙ sound.whole;
      }

take_sound : (l : Link) → IsSound l → IsSound (happens l Take)
take_sound l sound = go l.incoming.waiting refl
  where
    taken : (x : Load) → first_of l.incoming ≡ Some x → (xs : List Load) → l.incoming.waiting ≡ x ∷ xs → IsSound (record l { incoming = behind_first l.incoming; taken = l.taken ++ x ∷ [] })
    taken x is xs e =
        let kept = take_keeps l.outgoing l.incoming x sound.ends is in
        record {
          ends = kept.0;
          packets = sound.packets;
          acks = sound.acks;
          rest = record {
            waiting_out = sound.rest.waiting_out;
            numbered = sound.rest.numbered;
            waiting_in = append_assoc l.taken (x ∷ []) (drop 1 l.incoming.waiting) ∙ ap (λ ys. l.taken ++ (x ∷ drop 1 ys)) e ∙ ap (λ ys. l.taken ++ ys) (sym e) ∙ sound.rest.waiting_in;
            counted = sound.rest.counted;
          };
          whole = append_assoc l.taken (x ∷ []) (unread l.outgoing (behind_first l.incoming)) ∙ ap (λ ys. l.taken ++ ys) (sym kept.1) ∙ sound.whole;
        }

    none : l.incoming.waiting ≡ [] → IsSound (record l { incoming = behind_first l.incoming; taken = l.taken ++ [] })
    none e = record {
      ends = record { acked = sound.ends.acked; had = sound.ends.had };
      packets = sound.packets;
      acks = sound.acks;
      rest = record {
        waiting_out = sound.rest.waiting_out;
        numbered = sound.rest.numbered;
        waiting_in = ap (λ ys. (l.taken ++ []) ++ drop 1 ys) e ∙ ap (λ ys. ys ++ []) (append-nil l.taken) ∙ ap (λ ys. l.taken ++ ys) (sym e) ∙ sound.rest.waiting_in;
        counted = sound.rest.counted;
      };
      whole = ap (λ ys. (l.taken ++ []) ++ (drop 1 ys ++ drop (l.incoming.arrived - l.outgoing.acknowledged) l.outgoing.waiting)) e
          ∙ ap (λ ys. ys ++ drop (l.incoming.arrived - l.outgoing.acknowledged) l.outgoing.waiting) (append-nil l.taken)
          ∙ ap (λ ys. l.taken ++ (ys ++ drop (l.incoming.arrived - l.outgoing.acknowledged) l.outgoing.waiting)) (sym e) ∙ sound.whole;
    }

    go : (xs : List Load) → l.incoming.waiting ≡ xs → IsSound (happens l Take)
    go [] e = subst (λ o. IsSound (record l { incoming = behind_first l.incoming; taken = l.taken ++ option_to_list o })) (sym (ap (λ ys. slice_get ys 0) e)) (none e)
    go (x ∷ xs) e = subst (λ o. IsSound (record l { incoming = behind_first l.incoming; taken = l.taken ++ option_to_list o })) (sym (ap (λ ys. slice_get ys 0) e)) (taken x (ap (λ ys. slice_get ys 0) e) xs e)

sound_next : (l : Link) (e : LinkEvent) → IsSound l → IsSound (happens l e)
sound_next l (Push x) sound = push_sound l x sound
sound_next l (SendPacket k) sound = send_sound l k sound
sound_next l SendAck sound = answer_sound l sound
sound_next l (PacketArrives k) sound = go (slice_get l.packets k) refl
  where
    go : (o : Option Packet) → slice_get l.packets k ≡ o → IsSound (packet_arrives l o)
    go None is = sound
    go (Some p) is = packet_sound l p sound (all_at (IsPacketOf l.outgoing) l.packets k p sound.packets is)
sound_next l (AckArrives k) sound = go (slice_get l.acks k) refl
  where
    go : (o : Option ℕ) → slice_get l.acks k ≡ o → IsSound (ack_arrives l o)
    go None is = sound
    go (Some n) is = ack_sound l n sound (all_at (IsAckOf l.incoming) l.acks k n sound.acks is)
sound_next l Take sound = take_sound l sound

sound_after : (es : List LinkEvent) (l : Link) → IsSound l → IsSound (after_all l es)
sound_after [] l sound = sound
sound_after (e ∷ es) l sound = sound_after es (happens l e) (sound_next l e sound)

sound_link : (es : List LinkEvent) → IsSound (link_after es)
sound_link es = sound_after es fresh_link fresh_sound

pub arrived_first : (es : List LinkEvent) → IsPrefixOf (link_after es).arrived (link_after es).pushed
arrived_first es =
    let l = link_after es in
    let sound = sound_link es in
    let late = drop (l.incoming.arrived - l.outgoing.acknowledged) l.outgoing.waiting in
    (late, ap (λ xs. xs ++ late) (sym sound.rest.waiting_in) ∙ append_assoc l.taken l.incoming.waiting late ∙ sound.whole)

pub taken_first : (es : List LinkEvent) → IsPrefixOf (link_after es).taken (link_after es).arrived
taken_first es = ((link_after es).incoming.waiting, (sound_link es).rest.waiting_in)

pub none_acked_before : (es : List LinkEvent) → (link_after es).outgoing.acknowledged ≤ length (link_after es).arrived
none_acked_before es = subst (λ n. (link_after es).outgoing.acknowledged ≤ n) (sound_link es).rest.counted (sound_link es).ends.acked

pub rest_held : (es : List LinkEvent) → HoldTheRest (link_after es)
rest_held es = (sound_link es).rest
