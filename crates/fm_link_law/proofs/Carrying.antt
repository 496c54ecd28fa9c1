-- A channel as the two ends of its link, through each event of the process at either end.
use Rattle.std.proofs.Common.{◌≡◌, ◌≤◌, ℕ, zero, suc, ℤ, Bool, true, false, cond, List, [], ◌∷◌, ◌++◌, map, Option, Some, None, refl, sym, ap, subst, ◌∙◌, arith, append-nil}
use Rattle.fm_base.specs.declared.path.ChanName.{ChanName}
use Rattle.fm_base.specs.declared.port.PortValue.TheVariants.{Writer}
use Rattle.fm_base.specs.Channels.{Item, Words, Ports, Message, Chan, Limits, Push, Pop, fits_limits, message_ports, queue_ports, changed, fresh, discarded, without}
use Rattle.fm_base.specs.Channels as base
use Rattle.fm_net.specs.Machine.{reply_with, served_at}
use Rattle.fm_link.specs.declared.load.Load.{Load}
use Rattle.fm_link.specs.declared.load.Load.TheVariants as load
use Rattle.fm_link.specs.Ends.{with_load, with_packet, first_of, behind_first}
use Rattle.fm_link.specs.Link.{AreEnds, IsPacketOf, IsAckOf, unread}
use Rattle.fm_link.proofs.Queues.{first_ends, push_keeps, push_keeps_packet, arrive_keeps, arrive_keeps_ack, acked_keeps, acked_keeps_packet, take_keeps}
use Rattle.fm_link_law.specs.Loads.{AreWords, words_in, load_of, messages_in, CloseIsLast}
use Rattle.fm_link_law.specs.Channels.{LinkedChan, new_linked, loads_left, chan_of, IsLinked, pushed, taken_from, closed, gone}
use Rattle.fm_link_law.specs.Hosts.{Thing, SentPacket, SentAck, IsTrueOf, thing_comes}
use Rattle.fm_link_law.specs.Steps.{reply_to_receive}

-- ---- messages of words

pub messages_in-append : (xs ys : List Load) → messages_in (xs ++ ys) ≡ messages_in xs ++ messages_in ys
messages_in-append [] ys = refl
messages_in-append (load.Words ws ∷ xs) ys = ap (λ ms. map Words ws ∷ ms) (messages_in-append xs ys)
messages_in-append (load.Close ∷ xs) ys = messages_in-append xs ys

no_ports_in : (ws : List (List ℤ)) → message_ports (map Words ws) ≡ []
no_ports_in [] = refl
no_ports_in (w ∷ ws) = no_ports_in ws

pub no_ports : (xs : List Load) → queue_ports (messages_in xs) ≡ []
no_ports [] = refl
no_ports (load.Words ws ∷ xs) = ap (λ ps. ps ++ queue_ports (messages_in xs)) (no_ports_in ws) ∙ no_ports xs
no_ports (load.Close ∷ xs) = no_ports xs

pub words_no_ports : (m : Message) → AreWords m → message_ports m ≡ []
words_no_ports [] all = refl
words_no_ports (Words ws ∷ m) all = words_no_ports m all.1
words_no_ports (Ports ps ∷ m) all = absurd all.0

load_back : (m : Message) → AreWords m → map Words (map words_in m) ≡ m
load_back [] all = refl
load_back (Words ws ∷ m) all = ap (λ xs. Words ws ∷ xs) (load_back m all.1)
load_back (Ports ps ∷ m) all = absurd all.0

CloseIsLast-push : (ws : List (List ℤ)) (xs : List Load) → CloseIsLast true xs → CloseIsLast true (xs ++ load.Words ws ∷ [])
CloseIsLast-push ws [] so = refl
CloseIsLast-push ws (load.Words vs ∷ xs) so = CloseIsLast-push ws xs so
CloseIsLast-push ws (load.Close ∷ xs) so = absurd (cc so.0)

CloseIsLast-close : (xs : List Load) → CloseIsLast true xs → CloseIsLast false (xs ++ load.Close ∷ [])
CloseIsLast-close [] so = (refl, refl)
CloseIsLast-close (load.Words vs ∷ xs) so = CloseIsLast-close xs so
CloseIsLast-close (load.Close ∷ xs) so = absurd (cc so.0)

-- ---- a new channel

pub new_is_linked : (k : ℕ) → IsLinked (new_linked k)
new_is_linked zero = record { ends = record { acked = omega arith; had = omega arith }; closing = (refl, refl) }
new_is_linked (suc k) = record { ends = first_ends; closing = refl }

pub new_chan : (k : ℕ) → k ≤ 1 → chan_of (new_linked k) ≡ fresh k
new_chan zero most = refl
new_chan (suc zero) most = refl
new_chan (suc (suc k)) most = absurd (omega (arith, most))

module _ (l : LinkedChan) where
  abbrev with_queue : List Message → Chan
  with_queue q = record { queue = q; writers = cond l.is_open (0 ∷ []) []; lives = l.lives }

  module _ (is : IsLinked l) where
    -- ---- a message is sent

    module _ (m : Message) where
      more_loads : unread (with_load l.outgoing (load_of m)) l.incoming ≡ loads_left l ++ load_of m ∷ []
      more_loads = (push_keeps l.outgoing l.incoming (load_of m) is.ends).1

      queue_more : AreWords m → messages_in (unread (with_load l.outgoing (load_of m)) l.incoming) ≡ messages_in (loads_left l) ++ m ∷ []
      queue_more all = ap messages_in more_loads ∙ messages_in-append (loads_left l) (load_of m ∷ []) ∙ ap (λ k. messages_in (loads_left l) ++ k ∷ []) (load_back m all)

      pub push_chan : AreWords m → (w : ℕ) → chan_of (pushed m l) ≡ changed (Push w m) (chan_of l)
      push_chan all w = ap with_queue (go l.lives)
        where
          go : (b : Bool) → cond b (messages_in (unread (with_load l.outgoing (load_of m)) l.incoming)) [] ≡ cond b (cond b (messages_in (loads_left l)) [] ++ m ∷ []) (cond b (messages_in (loads_left l)) [])
          go true = queue_more all
          go false = refl

      pub pushed_is_linked : l.is_open ≡ true → IsLinked (pushed m l)
      pushed_is_linked at = record {
        ends = (push_keeps l.outgoing l.incoming (load_of m) is.ends).0;
        closing = subst (CloseIsLast l.is_open) (sym more_loads)
            (subst (λ b. CloseIsLast b (loads_left l ++ load_of m ∷ [])) (sym at) (CloseIsLast-push (map words_in m) (loads_left l) (subst (λ b. CloseIsLast b (loads_left l)) at is.closing)));
      }

    -- ---- the writer is closed

    one_end_more : unread (with_load l.outgoing load.Close) l.incoming ≡ loads_left l ++ load.Close ∷ []
    one_end_more = (push_keeps l.outgoing l.incoming load.Close is.ends).1

    pub close_chan : (c : ChanName) → chan_of (closed l) ≡ discarded (Writer c 0) (chan_of l)
    close_chan c = λ i. record { queue = cond l.lives (same_queue i) []; writers = no_writer l.is_open i; lives = l.lives }
      where
        same_queue : messages_in (unread (with_load l.outgoing load.Close) l.incoming) ≡ messages_in (loads_left l)
        same_queue = ap messages_in one_end_more ∙ messages_in-append (loads_left l) (load.Close ∷ []) ∙ append-nil (messages_in (loads_left l))

        no_writer : (b : Bool) → [] ≡ without 0 (cond b (0 ∷ []) [])
        no_writer true = refl
        no_writer false = refl

    pub closed_is_linked : l.is_open ≡ true → IsLinked (closed l)
    closed_is_linked at = record {
      ends = (push_keeps l.outgoing l.incoming load.Close is.ends).0;
      closing = subst (CloseIsLast false) (sym one_end_more) (CloseIsLast-close (loads_left l) (subst (λ b. CloseIsLast b (loads_left l)) at is.closing));
    }

    -- ---- the inport is gone

    pub gone_is_linked : IsLinked (gone l)
    gone_is_linked = record { ends = is.ends; closing = is.closing }

    -- ---- a message has arrived, and is taken if it is within the limits

    module _ (limits : Limits) (ws : List (List ℤ)) (at : first_of l.incoming ≡ Some (load.Words ws)) where
      left_is : loads_left l ≡ load.Words ws ∷ unread l.outgoing (behind_first l.incoming)
      left_is = (take_keeps l.outgoing l.incoming (load.Words ws) is.ends at).1

      pub taken_is_linked : IsLinked (taken_from limits (Some (load.Words ws)) l)
      taken_is_linked = go (fits_limits limits (map Words ws))
        where
          go : (b : Bool) → IsLinked (cond b (record { outgoing = l.outgoing; incoming = behind_first l.incoming; is_open = l.is_open; lives = l.lives }) l)
          go true = record {
            ends = (take_keeps l.outgoing l.incoming (load.Words ws) is.ends at).0;
            closing = subst (CloseIsLast l.is_open) left_is is.closing;
          }
          go false = is

      module _ (lives : l.lives ≡ true) where
        queue_is : (chan_of l).queue ≡ map Words ws ∷ messages_in (unread l.outgoing (behind_first l.incoming))
        queue_is = ap (λ b. cond b (messages_in (loads_left l)) []) lives ∙ ap messages_in left_is

        pub take_served : {Proc : Type 0} → served_at {Proc = Proc} (Pop limits) (Some (chan_of l)) ≡ reply_to_receive limits (Some (load.Words ws))
        take_served {Proc = Proc} = ap (λ q. served_at {Proc = Proc} (Pop limits) (Some (with_queue q))) queue_is

        pub take_chan : chan_of (taken_from limits (Some (load.Words ws)) l) ≡ changed (Pop limits) (chan_of l)
        take_chan = go (fits_limits limits (map Words ws)) ∙ ap with_queue (sym (ap (base.behind_first limits) queue_is))
          where
            go : (b : Bool) → chan_of (cond b (record { outgoing = l.outgoing; incoming = behind_first l.incoming; is_open = l.is_open; lives = l.lives }) l)
                ≡ with_queue (cond b (messages_in (unread l.outgoing (behind_first l.incoming))) (map Words ws ∷ messages_in (unread l.outgoing (behind_first l.incoming))))
            go true = ap with_queue (ap (λ b. cond b (messages_in (unread l.outgoing (behind_first l.incoming))) []) lives)
            go false = ap with_queue queue_is

    -- ---- the end has arrived, and stays

    module _ (limits : Limits) (at : first_of l.incoming ≡ Some load.Close) where
      end_left : loads_left l ≡ load.Close ∷ unread l.outgoing (behind_first l.incoming)
      end_left = (take_keeps l.outgoing l.incoming load.Close is.ends at).1

      is_end : (l.is_open ≡ false) × (unread l.outgoing (behind_first l.incoming) ≡ [])
      is_end = subst (CloseIsLast l.is_open) end_left is.closing

      empty_queue : (chan_of l).queue ≡ []
      empty_queue = ap (λ xs. cond l.lives (messages_in xs) []) end_left ∙ ap (λ xs. cond l.lives (messages_in xs) []) is_end.1 ∙ go l.lives
        where
          go : (b : Bool) → cond {A = List Message} b [] [] ≡ []
          go true = refl
          go false = refl

      pub end_served : {Proc : Type 0} → served_at {Proc = Proc} (Pop limits) (Some (chan_of l)) ≡ Some (reply_with [])
      end_served {Proc = Proc} =
          ap (λ q. served_at {Proc = Proc} (Pop limits) (Some (with_queue q))) empty_queue
          ∙ ap (λ b. served_at {Proc = Proc} (Pop limits) (Some (record { queue = []; writers = cond b (0 ∷ []) []; lives = l.lives }))) is_end.0

      pub end_chan : chan_of l ≡ changed (Pop limits) (chan_of l)
      end_chan = ap with_queue (empty_queue ∙ sym (ap (base.behind_first limits) empty_queue))

    -- ---- the network brings something

    pub comes_is_linked : (t : Thing) → IsTrueOf l t → IsLinked (thing_comes t l)
    comes_is_linked (SentPacket p) here = go l.lives
      where
        kept : AreEnds l.outgoing (with_packet l.incoming p) × (unread l.outgoing (with_packet l.incoming p) ≡ loads_left l)
        kept = arrive_keeps l.outgoing l.incoming p is.ends here

        go : (b : Bool) → IsLinked (cond b (record { outgoing = l.outgoing; incoming = with_packet l.incoming p; is_open = l.is_open; lives = l.lives }) l)
        go true = record { ends = kept.0; closing = subst (CloseIsLast l.is_open) (sym kept.1) is.closing }
        go false = is
    comes_is_linked (SentAck next) here =
        let kept = acked_keeps l.outgoing next l.incoming is.ends here in
        record { ends = kept.0; closing = subst (CloseIsLast l.is_open) (sym kept.1) is.closing }

    pub comes_chan : (t : Thing) → IsTrueOf l t → chan_of (thing_comes t l) ≡ chan_of l
    comes_chan (SentPacket p) here = go l.lives refl
      where
        go : (b : Bool) → l.lives ≡ b → chan_of (cond b (record { outgoing = l.outgoing; incoming = with_packet l.incoming p; is_open = l.is_open; lives = l.lives }) l) ≡ chan_of l
        go true e = ap (λ xs. with_queue (cond l.lives (messages_in xs) [])) (arrive_keeps l.outgoing l.incoming p is.ends here).1
        go false e = refl
    comes_chan (SentAck next) here = ap (λ xs. with_queue (cond l.lives (messages_in xs) [])) (acked_keeps l.outgoing next l.incoming is.ends here).1

  -- ---- what is on the wire stays true

  pub pushed_keeps : (m : Message) (t : Thing) → IsTrueOf l t → IsTrueOf (pushed m l) t
  pushed_keeps m (SentPacket p) here = push_keeps_packet l.outgoing p (load_of m) here
  pushed_keeps m (SentAck next) here = here

  pub closed_keeps : (t : Thing) → IsTrueOf l t → IsTrueOf (closed l) t
  closed_keeps (SentPacket p) here = push_keeps_packet l.outgoing p load.Close here
  closed_keeps (SentAck next) here = here

  pub gone_keeps : (t : Thing) → IsTrueOf l t → IsTrueOf (gone l) t
  gone_keeps (SentPacket p) here = here
  gone_keeps (SentAck next) here = here

  pub taken_keeps : (limits : Limits) (o : Option Load) (t : Thing) → IsTrueOf l t → IsTrueOf (taken_from limits o l) t
  taken_keeps limits None t here = here
  taken_keeps limits (Some (load.Words ws)) (SentPacket p) here = go (fits_limits limits (map Words ws))
    where
      go : (b : Bool) → IsPacketOf (cond b (record { outgoing = l.outgoing; incoming = behind_first l.incoming; is_open = l.is_open; lives = l.lives }) l).outgoing p
      go true = here
      go false = here
  taken_keeps limits (Some (load.Words ws)) (SentAck next) here = go (fits_limits limits (map Words ws))
    where
      go : (b : Bool) → IsAckOf (cond b (record { outgoing = l.outgoing; incoming = behind_first l.incoming; is_open = l.is_open; lives = l.lives }) l).incoming next
      go true = here
      go false = here
  taken_keeps limits (Some load.Close) t here = here

  pub comes_keeps : (s t : Thing) → IsTrueOf l t → IsTrueOf (thing_comes s l) t
  comes_keeps (SentPacket q) (SentPacket p) here = go l.lives
    where
      go : (b : Bool) → IsPacketOf (cond b (record { outgoing = l.outgoing; incoming = with_packet l.incoming q; is_open = l.is_open; lives = l.lives }) l).outgoing p
      go true = here
      go false = here
  comes_keeps (SentPacket q) (SentAck next) here = go l.lives
    where
      go : (b : Bool) → IsAckOf (cond b (record { outgoing = l.outgoing; incoming = with_packet l.incoming q; is_open = l.is_open; lives = l.lives }) l).incoming next
      go true = arrive_keeps_ack l.incoming q next here
      go false = here
  comes_keeps (SentAck n) (SentPacket p) here = acked_keeps_packet l.outgoing n p here
  comes_keeps (SentAck n) (SentAck next) here = here
