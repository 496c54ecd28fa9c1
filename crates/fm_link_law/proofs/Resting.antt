-- When a receive waits for good, and what a round of the network does for a channel.
use Rattle.std.proofs.Common.{◌≡◌, ◌⊎◌, inl, inr, ℕ, suc, ◌+◌, ◌-◌, ◌<◌, ◌≤◌, Bool, true, false, cond, ◌&&◌, List, [], ◌∷◌, ◌++◌, drop, slice_get, Option, Some, None, option_map, refl, sym, ap, ◌∙◌, arith, eq-eqb}
use Rattle.std.specs.Bool.{nat_lt, nat_le}
use Rattle.std.proofs.lemmas.Bool.{ne_eqb, lt-ltb, le-ltb, le-leb, and_left, cases_lt}
use Rattle.fm_base.specs.Channels.{can_pop}
use Rattle.fm_link.specs.declared.load.Load.{Load}
use Rattle.fm_link.specs.declared.load.Load.TheVariants as load
use Rattle.fm_link.specs.declared.load.Packet.{Packet}
use Rattle.fm_link.specs.Ends.{Outgoing, Incoming, pushes, packet_of, is_news, acked_by, with_packet}
use Rattle.fm_link.specs.Link.{AreEnds}
use Rattle.fm_link_law.specs.Loads.{messages_in, CloseIsLast}
use Rattle.fm_link_law.specs.Channels.{LinkedChan, loads_left, chan_of, IsLinked}

-- ---- a receive on a living inport has its step in the meaning exactly where something is left to take

abbrev pub is_some_left : List Load → Bool
is_some_left [] = false
is_some_left (x ∷ xs) = true

left_can : (b : Bool) (xs : List Load) → CloseIsLast b xs → can_pop (messages_in xs) (cond b (0 ∷ []) []) ≡ is_some_left xs
left_can b [] so = ap (λ b. can_pop [] (cond b (0 ∷ []) [])) so
left_can b (load.Words ws ∷ xs) so = refl
left_can b (load.Close ∷ xs) so = ap (λ b. can_pop (messages_in xs) (cond b (0 ∷ []) [])) so.0 ∙ ap (λ ys. can_pop (messages_in ys) []) so.1

pub can_where_left : (l : LinkedChan) → IsLinked l → l.lives ≡ true → can_pop (chan_of l).queue (chan_of l).writers ≡ is_some_left (loads_left l)
can_where_left l is lives = ap (λ b. can_pop (cond b (messages_in (loads_left l)) []) (cond l.is_open (0 ∷ []) [])) lives ∙ left_can l.is_open (loads_left l) is.closing

-- ---- one round at one channel

module _ (o : Outgoing) (i : Incoming) (ends : AreEnds o i) where
  -- after an answer came, what has arrived is acknowledged
  pub answered_settles : (acked_by o i.arrived).acknowledged ≡ i.arrived
  answered_settles = go (cases_lt o.acknowledged i.arrived)
    where
      news : o.acknowledged < i.arrived → is_news o i.arrived ≡ true
      news more = both (nat_lt o.acknowledged i.arrived) (nat_le i.arrived (pushes o)) (lt-ltb o.acknowledged i.arrived more) (le-leb i.arrived (pushes o) ends.had)
        where
          both : (a b : Bool) → a ≡ true → b ≡ true → a && b ≡ true
          both true b e f = f
          both false b e f = e

      go : (o.acknowledged < i.arrived) ⊎ (i.arrived ≤ o.acknowledged) → (acked_by o i.arrived).acknowledged ≡ i.arrived
      go (inl more) = ap (λ b. (cond b (record { acknowledged = i.arrived; waiting = drop (i.arrived - o.acknowledged) o.waiting }) o).acknowledged) (news more)
      go (inr less) =
          ap (λ b. (cond b (record { acknowledged = i.arrived; waiting = drop (i.arrived - o.acknowledged) o.waiting }) o).acknowledged)
          (and_left (nat_lt o.acknowledged i.arrived) (nat_le i.arrived (pushes o)) (le-ltb o.acknowledged i.arrived less))
          ∙ omega (arith, less, ends.acked)

  module _ (settled : o.acknowledged ≡ i.arrived) where
    number_is : (k : ℕ) (p : Packet) → packet_of o k ≡ Some p → p.number ≡ i.arrived + k
    number_is k p is = go (slice_get o.waiting k) is
      where
        go : (x : Option Load) → option_map (λ (x : Load). record { number = o.acknowledged + k; load = x }) x ≡ Some p → p.number ≡ i.arrived + k
        go None e = absurd (cc e)
        go (Some x) e = sym (the_number (record { number = o.acknowledged + k; load = x }) e) ∙ ap (λ n. n + k) settled
          where
            the_number : (q : Packet) → Some q ≡ Some p → q.number ≡ p.number
            the_number q e = cc

    -- the first packet that isn't acknowledged is the next one: it is taken when it comes
    pub first_is_taken : (p : Packet) → packet_of o 0 ≡ Some p → with_packet i p ≡ record { arrived = suc i.arrived; waiting = i.waiting ++ p.load ∷ [] }
    first_is_taken p is = ap (λ b. cond b (record { arrived = suc i.arrived; waiting = i.waiting ++ p.load ∷ [] }) i) (eq-eqb p.number i.arrived (omega (arith, number_is 0 p is)))

    -- the second one comes early
    pub second_is_early : (p : Packet) → packet_of o 1 ≡ Some p → with_packet i p ≡ i
    second_is_early p is = ap (λ b. cond b (record { arrived = suc i.arrived; waiting = i.waiting ++ p.load ∷ [] }) i) (ne_eqb p.number i.arrived (λ e. absurd (omega (arith, e, number_is 1 p is))))
