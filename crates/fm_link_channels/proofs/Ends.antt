-- The ends of one channel and of its link, through what a step does.
use Rattle.std.proofs.Common.{◌≡◌, ℕ, zero, suc, Bool, true, false, cond, List, [], ◌∷◌, ◌++◌, Option, Some, None, option_map, refl, sym, ap, subst, ◌∙◌}
use Rattle.std.specs.Prelude.{map}
use Rattle.std.specs.FinMap as finite
use Rattle.std.specs.FinMap.{get-insert}
use Rattle.std.specs.Ordering.{eq_by_cmp}
use Rattle.fm_base.specs.PathOrder.{channel_cmp}
use Rattle.fm_base.specs.declared.path.ChanName.{ChanName}
use Rattle.fm_base.specs.declared.port.PortValue.{PortValue}
use Rattle.fm_base.specs.declared.port.PortValue.TheVariants.{Writer, Reader}
use Rattle.fm_base.specs.Channels.{Words, ChannelOp, Push, Pop, Look, Limits, fits_limits}
use Rattle.fm_finmap.specs.Changes.{adjust}
use Rattle.fm_finmap.proofs.Keys.{channel_order, tie}
use Rattle.fm_finmap.proofs.Adjusts.{get-adjust}
use Rattle.fm_net.specs.Machine.{Place, Need, Nothing, Event, New, Children}
use Rattle.fm_net.specs.Owned.{name_of}
use Rattle.fm_link.specs.declared.load.Load.{Load}
use Rattle.fm_link.specs.declared.load.Load.TheVariants as load
use Rattle.fm_link.specs.Ends.{with_load, first_of, behind_first}
use Rattle.fm_link.specs.Link as link
use Rattle.fm_link.specs.Link.{Link, LinkEvent, after_all}
use Rattle.fm_link_law.specs.Loads.{load_of}
use Rattle.fm_link_law.specs.Channels.{LinkedChan, LinkedChans, fresh_linked, new_linked, op_done, taken_from, closed, gone, shut_port, shut_ports}
use Rattle.fm_link_law.specs.Steps.{linked_after, IsPlainNeed}
use Rattle.fm_link_channels.specs.Events.{where_same, receive_events, op_events, op_events_at, new_events, need_events, close_events, shut_events, all_shut_events}
use Rattle.fm_link_channels.specs.Links.{outgoing_at, incoming_at}

-- the link has the ends of the channel
pub record AreEndsOf (o : Option LinkedChan) (l : Link) : Type 0 where
  pub outgoing : l.outgoing ≡ outgoing_at o
  pub incoming : l.incoming ≡ incoming_at o

pub after-append : (l : Link) (xs ys : List LinkEvent) → after_all l (xs ++ ys) ≡ after_all (after_all l xs) ys
after-append l [] ys = refl
after-append l (x ∷ xs) ys = after-append (link.happens l x) xs ys

-- ---- at one channel

push_ends : (x : Load) (k : LinkedChan) (l : Link) (is_open lives : Bool) → AreEndsOf (Some k) l
    → AreEndsOf (Some (record { outgoing = with_load k.outgoing x; incoming = k.incoming; is_open = is_open; lives = lives })) (link.happens l (link.Push x))
push_ends x k l is_open lives ends = record { outgoing = ap (λ o. with_load o x) ends.outgoing; incoming = ends.incoming }

receive_ends : (limits : Limits) (k : LinkedChan) (l : Link) (o : Option Load) → AreEndsOf (Some k) l → AreEndsOf (Some (taken_from limits o k)) (after_all l (receive_events limits o))
receive_ends limits k l None ends = ends
receive_ends limits k l (Some (load.Words ws)) ends = go (fits_limits limits (map Words ws))
  where
    go : (b : Bool) → AreEndsOf (Some (cond b (record { outgoing = k.outgoing; incoming = behind_first k.incoming; is_open = k.is_open; lives = k.lives }) k)) (after_all l (cond b (link.Take ∷ []) []))
    go true = record { outgoing = ends.outgoing; incoming = ap behind_first ends.incoming }
    go false = ends
receive_ends limits k l (Some load.Close) ends = ends

op_ends : (a : ChannelOp) (k : LinkedChan) (l : Link) → AreEndsOf (Some k) l → AreEndsOf (Some (op_done a k)) (after_all l (op_events a k))
op_ends (Push w m) k l ends = push_ends (load_of m) k l k.is_open k.lives ends
op_ends (Pop limits) k l ends = receive_ends limits k l (first_of k.incoming) ends
op_ends Look k l ends = ends

op_ends_at : (a : ChannelOp) (l : Link) (o : Option LinkedChan) → AreEndsOf o l → AreEndsOf (option_map (op_done a) o) (after_all l (op_events_at a o))
op_ends_at a l None ends = ends
op_ends_at a l (Some k) ends = op_ends a k l ends

close_ends : (l : Link) (o : Option LinkedChan) → AreEndsOf o l → AreEndsOf (option_map closed o) (after_all l (close_events o))
close_ends l None ends = ends
close_ends l (Some k) ends = push_ends load.Close k l false k.lives ends

gone_ends : (l : Link) (o : Option LinkedChan) → AreEndsOf o l → AreEndsOf (option_map gone o) l
gone_ends l None ends = ends
gone_ends l (Some k) ends = record { outgoing = ends.outgoing; incoming = ends.incoming }

new_ends : (n : ℕ) (l : Link) → AreEndsOf None l → AreEndsOf (Some (new_linked n)) (after_all l (new_events n))
new_ends zero l ends = push_ends load.Close fresh_linked l false true (record { outgoing = ends.outgoing; incoming = ends.incoming })
new_ends (suc n) l ends = record { outgoing = ends.outgoing; incoming = ends.incoming }

-- ---- among all channels

module _ (c : ChanName) where
  module _ (ls : LinkedChans) (d : ChanName) (l : Link) (ends : AreEndsOf (finite.get ls c) l) where
    adjust_ends : (f : LinkedChan → LinkedChan) (events : Option LinkedChan → List LinkEvent)
        → ((o : Option LinkedChan) → AreEndsOf o l → AreEndsOf (option_map f o) (after_all l (events o)))
        → AreEndsOf (finite.get (adjust ls d f) c) (after_all l (where_same c d (events (finite.get ls c))))
    adjust_ends f events on =
        subst (λ (o : Option LinkedChan). AreEndsOf o (after_all l (where_same c d (events (finite.get ls c))))) (sym (get-adjust channel_order ls d f c)) (go (eq_by_cmp channel_cmp c d))
      where
        go : (b : Bool) → AreEndsOf (cond b (option_map f (finite.get ls c)) (finite.get ls c)) (after_all l (cond b (events (finite.get ls c)) []))
        go true = on (finite.get ls c) ends
        go false = ends

    reader_ends : AreEndsOf (finite.get (adjust ls d gone) c) l
    reader_ends = subst (λ (o : Option LinkedChan). AreEndsOf o l) (sym (get-adjust channel_order ls d gone c)) (go (eq_by_cmp channel_cmp c d))
      where
        go : (b : Bool) → AreEndsOf (cond b (option_map gone (finite.get ls c)) (finite.get ls c)) l
        go true = gone_ends l (finite.get ls c) ends
        go false = ends

    insert_ends : (n : ℕ) → finite.get ls d ≡ None → AreEndsOf (finite.get (finite.insert ls d (new_linked n)) c) (after_all l (where_same c d (new_events n)))
    insert_ends n none =
        subst (λ (o : Option LinkedChan). AreEndsOf o (after_all l (where_same c d (new_events n)))) (sym (get-insert channel_order.total ls d (new_linked n) c)) (go (eq_by_cmp channel_cmp c d) refl)
      where
        go : (b : Bool) → eq_by_cmp channel_cmp c d ≡ b → AreEndsOf (cond b (Some (new_linked n)) (finite.get ls c)) (after_all l (cond b (new_events n) []))
        go true same = new_ends n l (subst (λ (o : Option LinkedChan). AreEndsOf o l) (ap (finite.get ls) (tie channel_order c d same) ∙ none) ends)
        go false same = ends

  pub need_ends : (ls : LinkedChans) (l : Link) (p : Place) (need : Need) → IsPlainNeed ls p need → AreEndsOf (finite.get ls c) l
      → AreEndsOf (finite.get (linked_after p need ls) c) (after_all l (need_events c p need ls))
  need_ends ls l p Nothing plain ends = ends
  need_ends ls l p (Event d a) plain ends = adjust_ends ls d l ends (op_done a) (op_events_at a) (λ o here. op_ends_at a l o here)
  need_ends ls l p (New n k) plain ends = insert_ends ls (name_of p n) l ends k plain.1
  need_ends ls l p (Children b n) plain ends = ends

  shut_ends : (z : PortValue) (ls : LinkedChans) (l : Link) → AreEndsOf (finite.get ls c) l → AreEndsOf (finite.get (shut_port z ls) c) (after_all l (shut_events c z ls))
  shut_ends (Writer d w) ls l ends = adjust_ends ls d l ends closed close_events (λ o here. close_ends l o here)
  shut_ends (Reader d) ls l ends = reader_ends ls d l ends

  pub all_shut_ends : (zs : List PortValue) (ls : LinkedChans) (l : Link) → AreEndsOf (finite.get ls c) l → AreEndsOf (finite.get (shut_ports zs ls) c) (after_all l (all_shut_events c zs ls))
  all_shut_ends [] ls l ends = ends
  all_shut_ends (z ∷ zs) ls l ends =
      subst (AreEndsOf (finite.get (shut_ports zs (shut_port z ls)) c)) (sym (after-append l (shut_events c z ls) (all_shut_events c zs (shut_port z ls))))
      (all_shut_ends zs (shut_port z ls) (after_all l (shut_events c z ls)) (shut_ends z ls l ends))
