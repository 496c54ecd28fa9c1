use Rattle.std.proofs.Common.{ℕ, ◌++◌, map, ap, sym, subst, ◌∙◌}
use Rattle.std.specs.Prelude.{option_to_list}
use Rattle.fm_chan.specs.Items.{plain_item}
use Rattle.fm_proc_language.specs.Frames.{all_stored}
use Rattle.fm_proc_slots.specs.Stores.{HasRoomToStore, holds, message_slots}
use Rattle.fm_proc_slots.proofs.storing.store_items.Goals as goal

pub items-preserved : goal.items-preserved
items-preserved c =
    let left = c.pop_front.new.self.items in
    let is = ap (map plain_item) (c.pop_front.ensures.items ∙ ap (λ o. option_to_list o ++ left) c.in-Some.is) in
    let rest = map plain_item left in
    let stage = c.items.stage in
    let places = c.items.places.now in
    let said = c.store_next-places.ensures in
    record {
      keeps = said.placed.keeps rest ∙ ap (λ xs. (all_stored (holds stage) places xs).0) (sym is) ∙ c.items.invariant.keeps;
      gives = said.placed.gives rest ∙ ap (λ xs. stage.drops.items ++ (all_stored (holds stage) places xs).1) (sym is) ∙ c.items.invariant.gives;
      room = said.room (message_slots rest) (subst (λ (k : ℕ). HasRoomToStore stage places k) (ap message_slots is) c.items.invariant.room);
    }
