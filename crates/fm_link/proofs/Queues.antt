-- What the reader hasn't taken, through each event at a link.
use Rattle.std.proofs.Common.{◌≡◌, ℕ, suc, ◌+◌, ◌-◌, ◌<◌, ◌≤◌, Bool, true, false, cond, ◌==◌, [], ◌∷◌, ◌++◌, length, drop, slice_get, Option, Some, None, option_map, refl, sym, ap, subst, ◌∙◌, arith, append_assoc, length-append, length-drop, eqb-true}
use Rattle.std.specs.Bool.{nat_lt, nat_le}
use Rattle.std.proofs.lemmas.Bool.{and_parts, ltb-true, leb-true}
use Rattle.std.proofs.lemmas.List.{drop-drop, drop-append-le}
use Rattle.std.proofs.lemmas.Option.{slice_get_within}
use Rattle.fm_link.specs.declared.load.Load.{Load}
use Rattle.fm_link.specs.declared.load.Packet.{Packet}
use Rattle.fm_link.specs.Ends.{Outgoing, Incoming, fresh_outgoing, fresh_incoming, pushes, with_load, packet_of, is_news, acked_by, with_packet, first_of, behind_first}
use Rattle.fm_link.specs.Link.{AreEnds, IsPacketOf, IsAckOf, unread}
use Rattle.fm_link.proofs.Places.{slice_get-append, slice_get-drop, drop-at}

pub first_ends : AreEnds fresh_outgoing fresh_incoming
first_ends = record { acked = omega arith; had = omega arith }

-- ---- a load is pushed

pub push_keeps : (o : Outgoing) (i : Incoming) (x : Load) → AreEnds o i → AreEnds (with_load o x) i × (unread (with_load o x) i ≡ unread o i ++ x ∷ [])
push_keeps o i x ends = (
  record { acked = ends.acked; had = omega (arith, ends.had, length-append o.waiting (x ∷ [])) },
  ap (λ xs. i.waiting ++ xs) (drop-append-le (i.arrived - o.acknowledged) o.waiting (x ∷ []) (omega (arith, ends.had, ends.acked)))
      ∙ sym (append_assoc i.waiting (drop (i.arrived - o.acknowledged) o.waiting) (x ∷ [])),
)

pub push_keeps_packet : (o : Outgoing) (p : Packet) (x : Load) → IsPacketOf o p → IsPacketOf (with_load o x) p
push_keeps_packet o p x is = record {
  within = omega (arith, is.within, length-append o.waiting (x ∷ []));
  same = λ k at. slice_get-append o.waiting (x ∷ []) k p.load (is.same k at);
}

-- ---- a packet is sent

pub sent_is_packet : (o : Outgoing) (k : ℕ) (p : Packet) → packet_of o k ≡ Some p → IsPacketOf o p
sent_is_packet o k p is = go (slice_get o.waiting k) refl is
  where
    same_place : (j : ℕ) (x : Load) → slice_get o.waiting k ≡ Some x → o.acknowledged + j ≡ o.acknowledged + k → slice_get o.waiting j ≡ Some x
    same_place j x at e = subst (λ n. slice_get o.waiting n ≡ Some x) (omega (arith, e)) at

    built : (x : Load) → slice_get o.waiting k ≡ Some x → IsPacketOf o (record { number = o.acknowledged + k; load = x })
    built x at = record {
      within = omega (arith, slice_get_within o.waiting k x at);
      same = λ j e. same_place j x at e;
    }

    the_packet : (q : Packet) → Some q ≡ Some p → q ≡ p
    the_packet q e = cc

    go : (y : Option Load) → slice_get o.waiting k ≡ y → option_map (λ x. record { number = o.acknowledged + k; load = x }) y ≡ Some p → IsPacketOf o p
    go None at e = absurd (cc e)
    go (Some x) at e = subst (IsPacketOf o) (the_packet (record { number = o.acknowledged + k; load = x }) e) (built x at)

-- ---- a packet arrives

module _ (o : Outgoing) (i : Incoming) (p : Packet) (ends : AreEnds o i) (is : IsPacketOf o p) where
  place : ℕ
  place = i.arrived - o.acknowledged

  next_is : p.number ≡ i.arrived → slice_get o.waiting (i.arrived - o.acknowledged) ≡ Some p.load
  next_is e = is.same (i.arrived - o.acknowledged) (omega (arith, ends.acked, e))

  one_behind : suc i.arrived - o.acknowledged ≡ suc (i.arrived - o.acknowledged)
  one_behind = omega (arith, ends.acked)

  taken_keeps : p.number ≡ i.arrived → AreEnds o (record { arrived = suc i.arrived; waiting = i.waiting ++ p.load ∷ [] })
  taken_keeps e = record { acked = omega (arith, ends.acked); had = omega (arith, is.within, e) }

  taken_unread : p.number ≡ i.arrived → (i.waiting ++ p.load ∷ []) ++ drop (suc i.arrived - o.acknowledged) o.waiting ≡ unread o i
  taken_unread e =
      append_assoc i.waiting (p.load ∷ []) (drop (suc i.arrived - o.acknowledged) o.waiting)
      ∙ ap (λ n. i.waiting ++ (p.load ∷ drop n o.waiting)) one_behind
      ∙ ap (λ xs. i.waiting ++ xs) (sym (drop-at o.waiting (i.arrived - o.acknowledged) p.load (next_is e)))

  pub arrive_keeps : AreEnds o (with_packet i p) × (unread o (with_packet i p) ≡ unread o i)
  arrive_keeps = go (p.number == i.arrived) refl
    where
      go : (b : Bool) → (p.number == i.arrived) ≡ b
          → AreEnds o (cond b (record { arrived = suc i.arrived; waiting = i.waiting ++ p.load ∷ [] }) i)
          × (unread o (cond b (record { arrived = suc i.arrived; waiting = i.waiting ++ p.load ∷ [] }) i) ≡ unread o i)
      go true e = let at = eqb-true p.number i.arrived e in (taken_keeps at, taken_unread at)
      go false e = (ends, refl)

pub arrive_keeps_ack : (i : Incoming) (p : Packet) (next : ℕ) → IsAckOf i next → IsAckOf (with_packet i p) next
arrive_keeps_ack i p next is = go (p.number == i.arrived)
  where
    go : (b : Bool) → IsAckOf (cond b (record { arrived = suc i.arrived; waiting = i.waiting ++ p.load ∷ [] }) i) next
    go true = omega (arith, is)
    go false = is

-- ---- an acknowledgement arrives

module _ (o : Outgoing) (next : ℕ) where
  shorter : Outgoing
  shorter = record { acknowledged = next; waiting = drop (next - o.acknowledged) o.waiting }

  pub record TellsNews : Type 0 where
    pub new : o.acknowledged < next
    pub pushed : next ≤ pushes o

  pub news_tell : is_news o next ≡ true → TellsNews
  news_tell e =
      let both = and_parts (nat_lt o.acknowledged next) (nat_le next (pushes o)) e in
      record { new = ltb-true o.acknowledged next both.0; pushed = leb-true next (pushes o) both.1 }

  length_is : length (drop (next - o.acknowledged) o.waiting) ≡ length o.waiting - (next - o.acknowledged)
  length_is = length-drop (next - o.acknowledged) o.waiting

  pub acked_keeps : (i : Incoming) → AreEnds o i → IsAckOf i next → AreEnds (acked_by o next) i × (unread (acked_by o next) i ≡ unread o i)
  acked_keeps i ends ack = go (is_news o next) refl
    where
      same_loads : TellsNews → drop (i.arrived - next) (drop (next - o.acknowledged) o.waiting) ≡ drop (i.arrived - o.acknowledged) o.waiting
      same_loads news = drop-drop (i.arrived - next) (next - o.acknowledged) o.waiting ∙ ap (λ n. drop n o.waiting) (omega (arith, news.new, ack))

      go : (b : Bool) → is_news o next ≡ b → AreEnds (cond b (record { acknowledged = next; waiting = drop (next - o.acknowledged) o.waiting }) o) i
          × (unread (cond b (record { acknowledged = next; waiting = drop (next - o.acknowledged) o.waiting }) o) i ≡ unread o i)
      go true e =
          let news = news_tell e in (
            record { acked = ack; had = omega (arith, ends.had, news.new, news.pushed, length_is) },
            ap (λ xs. i.waiting ++ xs) (same_loads news),
          )
      go false e = (ends, refl)

  pub acked_keeps_packet : (p : Packet) → IsPacketOf o p → IsPacketOf (acked_by o next) p
  acked_keeps_packet p is = go (is_news o next) refl
    where
      go : (b : Bool) → is_news o next ≡ b → IsPacketOf (cond b (record { acknowledged = next; waiting = drop (next - o.acknowledged) o.waiting }) o) p
      go true e =
          let news = news_tell e in
          record {
            within = omega (arith, is.within, news.new, news.pushed, length_is);
            same = λ k at. slice_get-drop (next - o.acknowledged) o.waiting k ∙ is.same ((next - o.acknowledged) + k) (omega (arith, at, news.new));
          }
      go false e = is

-- ---- a load is taken

pub take_keeps : (o : Outgoing) (i : Incoming) (x : Load) → AreEnds o i → first_of i ≡ Some x → AreEnds o (behind_first i) × (unread o i ≡ x ∷ unread o (behind_first i))
take_keeps o i x ends is = (record { acked = ends.acked; had = ends.had }, ap (λ xs. xs ++ drop (i.arrived - o.acknowledged) o.waiting) (drop-at i.waiting 0 x is))
