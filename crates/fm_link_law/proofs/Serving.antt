-- What is served on what has arrived is served in the meaning, and the channels go on alike.
use Rattle.std.proofs.Common.{◌≡◌, ◌⊎◌, inl, inr, ℕ, Bool, true, false, cond, List, [], Option, Some, None, option_map, refl, sym, ap, subst, ◌∙◌}
use Rattle.std.specs.FinMap as map
use Rattle.fm_base.specs.declared.path.ChanName.{ChanName}
use Rattle.fm_base.specs.Channels.{Message, message_ports, Chan, ChannelOp, Push, Pop, Look, Limits, changed, spills_at}
use Rattle.fm_finmap.specs.Changes.{adjust}
use Rattle.fm_finmap.proofs.Keys.{channel_order}
use Rattle.fm_finmap.proofs.Adjusts.{adjust-insert}
use Rattle.fm_finmap.proofs.Maps.{get-map_values, map_values-insert, map_values-adjust}
use Rattle.fm_net.specs.Machine.{Place, Procs, Need, Nothing, Event, New, Children, Reply, served, served_at, chans_after, spilt}
use Rattle.fm_net.specs.Owned.{name_of}
use Rattle.fm_link.specs.declared.load.Load.{Load}
use Rattle.fm_link.specs.declared.load.Load.TheVariants as load
use Rattle.fm_link.specs.Ends.{first_of}
use Rattle.fm_link_law.specs.Channels.{LinkedChan, LinkedChans, new_linked, chan_of, chans_of, IsLinked, taken_from, op_done}
use Rattle.fm_link_law.specs.Hosts.{Carried, AreTrue, AreLinked}
use Rattle.fm_link_law.specs.Steps.{reply_to_receive, served_by, served_there, served_here, linked_after, IsPlainOp, IsPlainNeed}
use Rattle.fm_link_law.proofs.Carrying.{words_no_ports, new_is_linked, new_chan, push_chan, pushed_is_linked, taken_is_linked, take_served, take_chan, end_served, end_chan, pushed_keeps, taken_keeps}
use Rattle.fm_link_law.proofs.Adjusting.{AreLinked-adjust, AreTrue-adjust, AreLinked-insert, AreTrue-insert}

-- ---- at one channel

module _ {Proc : Type 0} (l : LinkedChan) (is : IsLinked l) where
  -- a served event has the meaning's reply, and leaves the meaning's channel
  pub record GoesAlike (a : ChannelOp) (r : Reply Proc) : Type 0 where
    pub reply : served_at a (Some (chan_of l)) ≡ Some r
    pub chan : chan_of (op_done a l) ≡ changed a (chan_of l)
    pub linked : IsLinked (op_done a l)

  came_alike : (limits : Limits) → (lives : l.lives ≡ true) (o : Option Load) → first_of l.incoming ≡ o → (r : Reply Proc) → reply_to_receive limits o ≡ Some r → GoesAlike (Pop limits) r
  came_alike limits lives None at r e = absurd (cc e)
  came_alike limits lives (Some (load.Words ws)) at r e = record {
    reply = take_served l is limits ws at lives ∙ e;
    chan = ap (λ o. chan_of (taken_from limits o l)) at ∙ take_chan l is limits ws at lives;
    linked = subst (λ o. IsLinked (taken_from limits o l)) (sym at) (taken_is_linked l is limits ws at);
  }
  came_alike limits lives (Some load.Close) at r e = record {
    reply = end_served l is limits at ∙ e;
    chan = ap (λ o. chan_of (taken_from limits o l)) at ∙ end_chan l is limits at;
    linked = subst (λ o. IsLinked (taken_from limits o l)) (sym at) is;
  }

  pub goes_alike : (a : ChannelOp) → IsPlainOp (Some l) a → (r : Reply Proc) → served_by a l ≡ Some r → GoesAlike a r
  goes_alike (Push w m) plain r e = record { reply = e; chan = push_chan l is m plain.0 w; linked = pushed_is_linked l is m (plain.1 l refl) }
  goes_alike (Pop limits) plain r e = came_alike limits (plain l refl) (first_of l.incoming) refl r e
  goes_alike Look plain r e = absurd plain

-- ---- among all channels

module _ {Proc : Type 0} (has_ended : Proc → Bool) (procs : Procs Proc) (ls : LinkedChans) (p : Place) (all : AreLinked ls) where
  event_alike : (c : ChanName) (a : ChannelOp) (o : Option LinkedChan) → map.get ls c ≡ o → IsPlainOp o a → (r : Reply Proc) → served_there a o ≡ Some r
      → (served_at a (option_map chan_of o) ≡ Some r) × (adjust (chans_of ls) c (changed a) ≡ chans_of (adjust ls c (op_done a)))
      × ((l : LinkedChan) → map.get ls c ≡ Some l → IsLinked l → IsLinked (op_done a l))
  event_alike c a None is plain r e = absurd (cc e)
  event_alike c a (Some l) is plain r e =
      let alike = goes_alike l (all c l is) a plain r e in (
        alike.reply,
        sym (map_values-adjust channel_order chan_of ls c (changed a) l (op_done a l) (sym is) alike.chan) ∙ ap chans_of (sym (adjust-insert channel_order ls c (op_done a) l is)),
        (λ k at good. subst (λ k. IsLinked (op_done a k)) (the_linked l k (sym is ∙ at)) alike.linked),
      )
    where
      the_linked : (l k : LinkedChan) → Some l ≡ Some k → l ≡ k
      the_linked l k e = cc

  pub served_forth : (need : Need) → IsPlainNeed ls p need → (r : Reply Proc) → served_here has_ended procs ls p need ≡ Some r → served has_ended procs (chans_of ls) p need ≡ Some r
  served_forth Nothing plain r e = e
  served_forth (Event c a) plain r e = ap (served_at a) (get-map_values chan_of ls c) ∙ (event_alike c a (map.get ls c) refl plain r e).0
  served_forth (New n k) plain r e = e
  served_forth (Children b n) plain r e = e

  pub chans_forth : (need : Need) → IsPlainNeed ls p need → (r : Reply Proc) → served_here has_ended procs ls p need ≡ Some r → chans_after p need (chans_of ls) ≡ chans_of (linked_after p need ls)
  chans_forth Nothing plain r e = refl
  chans_forth (Event c a) plain r e = (event_alike c a (map.get ls c) refl plain r e).1
  chans_forth (New n k) plain r e =
      ap (map.insert (chans_of ls) (name_of p n)) (sym (new_chan k plain.0)) ∙ sym (map_values-insert chan_of channel_order ls (name_of p n) (new_linked k))
  chans_forth (Children b n) plain r e = refl

  pub linked_stay : (need : Need) → IsPlainNeed ls p need → (r : Reply Proc) → served_here has_ended procs ls p need ≡ Some r → AreLinked (linked_after p need ls)
  linked_stay Nothing plain r e = all
  linked_stay (Event c a) plain r e = AreLinked-adjust ls c (op_done a) all (event_alike c a (map.get ls c) refl plain r e).2
  linked_stay (New n k) plain r e = AreLinked-insert ls (name_of p n) (new_linked k) all (new_is_linked k)
  linked_stay (Children b n) plain r e = all

  pub wire_stays : (need : Need) → IsPlainNeed ls p need → (es : List Carried) → AreTrue ls es → AreTrue (linked_after p need ls) es
  wire_stays Nothing plain es true_of = true_of
  wire_stays (Event c (Push w m)) plain es true_of = AreTrue-adjust ls c (op_done (Push w m)) (λ l t is. pushed_keeps l m t) es true_of
  wire_stays (Event c (Pop limits)) plain es true_of = AreTrue-adjust ls c (op_done (Pop limits)) (λ l t is. taken_keeps l limits (first_of l.incoming) t) es true_of
  wire_stays (Event c Look) plain es true_of = absurd plain
  wire_stays (New n k) plain es true_of = AreTrue-insert ls (name_of p n) (new_linked k) es plain.1 true_of
  wire_stays (Children b n) plain es true_of = true_of

  nothing_spilt_by : (m : Message) → message_ports m ≡ [] → (w : ℕ) (o : Option Chan) → spills_at (Push w m) o ≡ []
  nothing_spilt_by m none w None = refl
  nothing_spilt_by m none w (Some ch) = go ch.lives
    where
      go : (b : Bool) → cond b [] (message_ports m) ≡ []
      go true = refl
      go false = none

  none_by_receive : (limits : Limits) (o : Option Chan) → spills_at (Pop limits) o ≡ []
  none_by_receive limits None = refl
  none_by_receive limits (Some ch) = refl

  -- no port is in the message that is sent
  pub nothing_spilt : (need : Need) → IsPlainNeed ls p need → spilt need (chans_of ls) ≡ []
  nothing_spilt Nothing plain = refl
  nothing_spilt (Event c (Push w m)) plain = nothing_spilt_by m (words_no_ports m plain.0) w (map.get (chans_of ls) c)
  nothing_spilt (Event c (Pop limits)) plain = none_by_receive limits (map.get (chans_of ls) c)
  nothing_spilt (Event c Look) plain = absurd plain
  nothing_spilt (New n k) plain = refl
  nothing_spilt (Children b n) plain = refl

  -- what isn't served here isn't served in the meaning, but for a receive on nothing
  pub unserved : (need : Need) → IsPlainNeed ls p need → served_here has_ended procs ls p need ≡ None
      → (served has_ended procs (chans_of ls) p need ≡ None)
      ⊎ ((c : ChanName) × (limits : Limits) × (l : LinkedChan) × (need ≡ Event c (Pop limits)) × (map.get ls c ≡ Some l) × (first_of l.incoming ≡ None))
  unserved Nothing plain e = absurd (cc e)
  unserved (Event c a) plain e = go a (map.get ls c) refl plain e
    where
      nothing_came : (limits : Limits) (o : Option Load) → reply_to_receive {Proc = Proc} limits o ≡ None → o ≡ None
      nothing_came limits None e = refl
      nothing_came limits (Some (load.Words ws)) e = absurd (cc e)
      nothing_came limits (Some load.Close) e = absurd (cc e)

      go : (a : ChannelOp) (o : Option LinkedChan) → map.get ls c ≡ o → IsPlainOp o a → served_there {Proc = Proc} a o ≡ None
          → (served_at {Proc = Proc} a (map.get (chans_of ls) c) ≡ None)
          ⊎ ((d : ChanName) × (limits : Limits) × (l : LinkedChan) × (Event c a ≡ Event d (Pop limits)) × (map.get ls d ≡ Some l) × (first_of l.incoming ≡ None))
      go a None is plain e = inl (ap (served_at {Proc = Proc} a) (get-map_values chan_of ls c ∙ ap (option_map chan_of) is))
      go (Push w m) (Some l) is plain e = absurd (cc e)
      go (Pop limits) (Some l) is plain e = inr (c, limits, l, refl, is, nothing_came limits (first_of l.incoming) e)
      go Look (Some l) is plain e = absurd plain
  unserved (New n k) plain e = absurd (cc e)
  unserved (Children b n) plain e = inl e
