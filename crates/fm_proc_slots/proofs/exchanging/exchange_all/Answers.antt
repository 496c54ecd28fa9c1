use Rattle.std.proofs.Common.{◌+◌, ◌*◌, ◌++◌, length, ◌≡◌, ap, arith, rules, ◌∙◌}
use Rattle.std.specs.Prelude.{option_to_list}
use Rattle.fm_proc_slots.specs.Helds.{held}
use Rattle.fm_proc_slots.specs.Rooms.{slots_in}
use Rattle.fm_proc_slots.proofs.Exchanges.{both_next, out_next}
use Rattle.fm_proc_slots.proofs.Roomy.{none_needed, room_for_span, room_within}
use Rattle.fm_proc_slots.proofs.exchanging.exchange_all.Goals as goal

pub exchange-out-requires : goal.exchange-out-requires
exchange-out-requires c =
    let left = c.pop_front.new.self.items in
    let more = ap length (c.pop_front.ensures.items ∙ ap (λ o. option_to_list o ++ left) c.in-Some.is) in
    room_for_span c.args.slots.now c.ports.slots (2 * length c.args.ports.items) (2 * length c.ports.rest.items) 2 (2 * length left) (omega (arith, more)) c.ports.invariant.room c.requires.slots

pub ports-preserved : goal.ports-preserved
ports-preserved c =
    let all = c.ports.rest.items in
    let left = c.pop_front.new.self.items in
    let is = c.pop_front.ensures.items ∙ ap (λ o. option_to_list o ++ left) c.in-Some.is in
    let more = ap length is in
    let h = held c.ports.words.items (slots_in c.ports.slots) in
    let h' = held c.exchange-out.new.words.items (slots_in c.exchange-out.new.slots) in
    let k = c.args.span.first + c.ports.index in
    let k' = c.args.span.first + (c.ports.index + 1) in
    record {
      both = both_next h h' k k' c.in-Some.port c.exchange-out.result all left is (omega arith) c.exchange-out.ensures.exchanged _ c.ports.invariant.both;
      out = out_next h h' k k' c.in-Some.port c.exchange-out.result all left is (omega arith) c.exchange-out.ensures.exchanged c.ports.drops.items c.keep_some.new.ports.items _ c.ports.invariant.out c.keep_some.ensures.items;
      count = omega (arith, more, c.ports.invariant.count);
      words = c.exchange-out.ensures.len ∙ c.ports.invariant.words;
      row = c.exchange-out.ensures.capacity ∙ c.ports.invariant.row;
      room = λ n r. c.exchange-out.ensures.room (2 * length left + n) (room_within c.ports.slots (2 * length all + n) (2 + (2 * length left + n)) (omega (arith, more)) (c.ports.invariant.room n r));
      len = omega (arith, more, c.ports.invariant.len, c.keep_some.ensures.len);
      capacity = omega (arith, c.ports.invariant.capacity, c.keep_some.ensures.capacity);
    }

pub returns-clause-slots : goal.returns-clause-slots
returns-clause-slots c =
    let none : length c.ports.rest.items ≡ 0 = search rules in
    none_needed c.args.slots.now c.ports.slots (2 * length c.args.ports.items) (2 * length c.ports.rest.items) (omega (arith, none)) c.ports.invariant.room
