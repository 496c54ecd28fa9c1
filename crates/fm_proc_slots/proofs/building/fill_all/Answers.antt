use Rattle.std.proofs.Common.{[], ◌∷◌, ◌++◌, length, map, ap, arith, vec_len, vec_capacity, ◌∙◌}
use Rattle.std.specs.Prelude.{option_to_list}
use Rattle.std.proofs.lemmas.List.{map-append}
use Rattle.fm_chan.specs.Items.{plain_item}
use Rattle.fm_proc_slots.specs.Builds.{operand_in}
use Rattle.fm_proc_slots.specs.Helds.{held}
use Rattle.fm_proc_slots.specs.Rooms.{slots_in}
use Rattle.fm_proc_slots.proofs.Built.{message_gives, message_keeps, slots_then}
use Rattle.fm_proc_slots.proofs.Reaches.{words_now, words_then}
use Rattle.fm_proc_slots.proofs.building.fill_all.Goals as goal

pub fill-requires-clause-words : goal.fill-requires-clause-words
fill-requires-clause-words c =
    let left = c.pop_front.new.self.items in
    let is = ap (map operand_in) (c.pop_front.ensures.items ∙ ap (λ o. option_to_list o ++ left) c.in-Some.is) in
    words_now (map operand_in c.blanks.rest.items) (map operand_in left) (operand_in c.in-Some.blank) is (vec_len c.blanks.words) (vec_capacity c.blanks.words) c.blanks.invariant.words

pub blanks-preserved : goal.blanks-preserved
blanks-preserved c =
    let left = c.pop_front.new.self.items in
    let some = c.pop_front.ensures.items ∙ ap (λ o. option_to_list o ++ left) c.in-Some.is in
    let is = ap (map operand_in) some in
    let all = map operand_in c.blanks.rest.items in
    let rest = map operand_in left in
    let o = operand_in c.in-Some.blank in
    let h = held c.blanks.words.items (slots_in c.blanks.slots) in
    let h' = held c.fill.new.words.items (slots_in c.fill.new.slots) in
    let i = plain_item c.fill.result in
    record {
      keeps = message_keeps all rest o is h h' i c.fill.ensures.item _ c.blanks.invariant.keeps;
      gives = message_gives all rest o is h h' i c.fill.ensures.item (map plain_item c.blanks.items.items) (map plain_item c.push_reserved.new.self.items) _ c.blanks.invariant.gives
          (ap (map plain_item) c.push_reserved.ensures.items ∙ map-append plain_item c.blanks.items.items (c.fill.result ∷ []));
      words = words_then all rest o is (vec_len c.blanks.words) (vec_len c.fill.new.words) (vec_capacity c.blanks.words) (vec_capacity c.fill.new.words) c.blanks.invariant.words c.fill.ensures.len c.fill.ensures.capacity;
      slots = slots_then all rest o is c.blanks.slots c.fill.new.slots c.blanks.invariant.slots c.fill.ensures.slots;
      room = omega (arith, ap length some, c.blanks.invariant.room);
    }
