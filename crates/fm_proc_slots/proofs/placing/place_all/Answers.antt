use Rattle.std.proofs.Common.{◌≤◌, ◌+◌, ◌*◌, ◌++◌, length, ap, subst, sym, ◌∙◌, vec_capacity, vec_len}
use Rattle.std.specs.Prelude.{option_to_list}
use Rattle.fm_proc_language.specs.Frames.{all_placed}
use Rattle.fm_proc_slots.specs.Helds.{held}
use Rattle.fm_proc_slots.specs.Rooms.{HasRoom, slots_in}
use Rattle.fm_proc_slots.proofs.Placements.{empty_for_next, empty_for_rest, room_for_next, room_for_rest}
use Rattle.fm_proc_slots.proofs.placing.place_all.Goals as goal

pub ports-init : goal.ports-init
ports-init c =
    let h = held c.args.words.now.items (slots_in c.args.slots.now) in
    let items = c.from_vec-rest.ensures.items in
    record {
      keeps = ap (λ xs. (all_placed h c.args.numbers.now xs).0) items;
      gives = ap (λ xs. c.args.out.now.items ++ (all_placed h c.args.numbers.now xs).1) items;
      slots = subst (λ xs. HasRoom c.args.slots.now (2 * length xs)) (sym items) c.requires.slots;
      empty = subst (λ xs. vec_len c.args.out.now + length xs ≤ vec_capacity c.args.out.now) (sym items) c.requires.out;
    }

pub place_next-numbers-requires : goal.place_next-numbers-requires
place_next-numbers-requires c =
    let left = c.pop_front.new.self.items in
    let is = c.pop_front.ensures.items ∙ ap (λ o. option_to_list o ++ left) c.in-Some.is in
    record {
      slots = room_for_next c.ports.rest.items left c.in-Some.port is c.ports.slots c.ports.invariant.slots;
      out = empty_for_next c.ports.rest.items left c.in-Some.port is (vec_len c.ports.out) (vec_capacity c.ports.out) c.ports.invariant.empty;
    }

pub ports-preserved : goal.ports-preserved
ports-preserved c =
    let left = c.pop_front.new.self.items in
    let is = c.pop_front.ensures.items ∙ ap (λ o. option_to_list o ++ left) c.in-Some.is in
    let h = held c.ports.words.items (slots_in c.ports.slots) in
    record {
      keeps = c.place_next-numbers.ensures.placed.keeps left ∙ ap (λ xs. (all_placed h c.ports.numbers.now xs).0) (sym is) ∙ c.ports.invariant.keeps;
      gives = c.place_next-numbers.ensures.placed.gives left ∙ ap (λ xs. c.ports.out.items ++ (all_placed h c.ports.numbers.now xs).1) (sym is) ∙ c.ports.invariant.gives;
      slots = room_for_rest c.ports.rest.items left c.in-Some.port is c.ports.slots c.place_next-numbers.new.slots c.ports.invariant.slots c.place_next-numbers.ensures.room;
      empty = empty_for_rest c.ports.rest.items left c.in-Some.port is (vec_len c.ports.out) (vec_len c.place_next-numbers.new.out) (vec_capacity c.ports.out) (vec_capacity c.place_next-numbers.new.out)
          c.ports.invariant.empty c.place_next-numbers.ensures.len c.place_next-numbers.ensures.capacity;
    }
