-- One of the channels in memory is changed, or none is there.
use Rattle.std.proofs.Common.{◌≡◌, Option, Some, None, option_map, refl, sym, ap, subst, ◌∙◌}
use Rattle.std.specs.Prelude.{IsSome}
use Rattle.std.specs.FinMap as map
use Rattle.fm_base.specs.declared.path.ChanName.{ChanName}
use Rattle.fm_base.specs.PathOrder.{channel_cmp}
use Rattle.fm_finmap.specs.Changes.{adjust}
use Rattle.fm_finmap.specs.Map.{map_of, map_values}
use Rattle.fm_finmap.proofs.Keys.{channel_order}
use Rattle.fm_finmap.proofs.Inserts.{insert_here}
use Rattle.fm_finmap.proofs.Adjusts.{adjust_absent}
use Rattle.fm_finmap.proofs.Maps.{get-map_values, map_values-empty, map_values-insert, map_values-remove, map_values-adjust, map_values-same}
use Rattle.fm_link_law.specs.Channels.{LinkedChan}
use Rattle.fm_nodes_network.specs.declared.channel.Channel.{Channel}
use Rattle.fm_nodes_network.specs.Channel.{linked_of, HasRoom}
use Rattle.fm_nodes_network.specs.Channels.{Named, linked_chans_in, RoomAt, HasRoomIn}

abbrev pub by_name : Named → map.FinMap channel_cmp Channel
by_name named = map_of channel_cmp named

pub linked_chans_in-empty : (named : Named) → by_name named ≡ map.empty → linked_chans_in named ≡ map.empty
unfolding linked_chans_in
linked_chans_in-empty named is = ap (map_values linked_of) is ∙ map_values-empty linked_of

pub get-linked_chans_in : (named : Named) (q : ChanName) → map.get (linked_chans_in named) q ≡ option_map linked_of (map.get (by_name named) q)
unfolding linked_chans_in
get-linked_chans_in named q = get-map_values linked_of (by_name named) q

pub found : (named : Named) (q : ChanName) (o : Option Channel) → o ≡ map.get (by_name named) q → option_map linked_of o ≡ map.get (linked_chans_in named) q
found named q o is = ap (option_map linked_of) is ∙ sym (get-linked_chans_in named q)

pub linked_chans_in-insert : (old new : Named) (q : ChanName) (b : Channel) (l : LinkedChan) → by_name new ≡ map.insert (by_name old) q b → linked_of b ≡ l → linked_chans_in new ≡ map.insert (linked_chans_in old) q l
unfolding linked_chans_in
linked_chans_in-insert old new q b l e is =
    ap (map_values linked_of) e ∙ map_values-insert linked_of channel_order (by_name old) q b ∙ ap (map.insert (map_values linked_of (by_name old)) q) is

pub linked_chans_in-remove : (old new : Named) (q : ChanName) → by_name new ≡ map.remove (by_name old) q → linked_chans_in new ≡ map.remove (linked_chans_in old) q
unfolding linked_chans_in
linked_chans_in-remove old new q e = ap (map_values linked_of) e ∙ map_values-remove linked_of channel_order (by_name old) q

some_is : {X : Type 0} (o : Option X) (x : X) → Some x ≡ o → IsSome o
some_is o x is = subst (λ (p : Option _). IsSome p) is refl

pub room_was : (named : Named) (q : ChanName) (b : Channel) → Some b ≡ map.get (by_name named) q → HasRoomIn named q → HasRoom b
unfolding HasRoomIn
room_was named q b is room = subst (λ (o : Option Channel). RoomAt o) (sym is) room

module _ (old new : Named) (q : ChanName) (b d : Channel) (is : Some b ≡ map.get (by_name old) q) (holds : IsSome (map.get (by_name old) q) → by_name new ≡ map.insert (by_name old) q d) where
  change : by_name new ≡ map.insert (by_name old) q d
  change = holds (some_is _ b is)

  pub adjusted_at : (f : LinkedChan → LinkedChan) → linked_of d ≡ f (linked_of b) → linked_chans_in new ≡ adjust (linked_chans_in old) q f
  unfolding linked_chans_in
  adjusted_at f e = ap (map_values linked_of) change ∙ map_values-adjust channel_order linked_of (by_name old) q f b d is e

  pub unchanged_at : linked_of d ≡ linked_of b → linked_chans_in new ≡ linked_chans_in old
  unfolding linked_chans_in
  unchanged_at e = ap (map_values linked_of) change ∙ map_values-same channel_order linked_of (by_name old) q b d is e

  pub room_is : HasRoom d → HasRoomIn new q
  unfolding HasRoomIn
  room_is room = subst (λ (o : Option Channel). RoomAt o) (sym (ap (λ m. map.get m q) change ∙ insert_here channel_order (by_name old) q d)) room

module _ (old new : Named) (q : ChanName) (same : new ≡ old) (is : None ≡ map.get (by_name old) q) where
  pub same_linked : linked_chans_in new ≡ linked_chans_in old
  same_linked = ap linked_chans_in same

  pub adjusted_absent : (f : LinkedChan → LinkedChan) → linked_chans_in new ≡ adjust (linked_chans_in old) q f
  adjusted_absent f = same_linked ∙ sym (adjust_absent channel_order (linked_chans_in old) q f (sym (found old q None is)))

  pub room_absent : HasRoomIn new q
  unfolding HasRoomIn
  room_absent = subst (λ (o : Option Channel). RoomAt o) (is ∙ ap (λ named. map.get (by_name named) q) (sym same)) tt
