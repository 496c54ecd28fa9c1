use Rattle.std.proofs.Common.{pos, get_or, rules, w64, vec_capacity, vec_len}
use Rattle.std.proofs.lemmas.Int.{to_z-of_z}
use Rattle.fm_proc_slots.specs.Rooms.{slots_in}
use Rattle.fm_proc_events.proofs.Rooms.{empty_next, left_next, room_next, vacated_next}
use Rattle.fm_proc_events.proofs.shedding.vacate.Goals as goal

pub words-preserved : goal.words-preserved
words-preserved c =
    let words = c.args.words.now in
    let i = c.words.word-index in
    let low = c.words-test.true in
    let this = to_z-of_z w64 (get_or words i (pos 0)) (search rules) in
    let before = slots_in c.words.slots in
    let after = slots_in c.leave.new.slots in
    record {
      ports = vacated_next before after words i _ c.words.ports.items c.leave.new.ports.items _ low this c.words.invariant.ports c.leave.ensures.ports c.leave.ensures.slots;
      slots = left_next before after _ words i _ low this c.words.invariant.slots c.leave.ensures.slots;
      free = c.leave.ensures.room _ (room_next c.words.slots words i low c.words.invariant.free);
      empty = empty_next (vec_len c.words.ports) (vec_len c.leave.new.ports) (vec_capacity c.words.ports) (vec_capacity c.leave.new.ports) words i low c.words.invariant.empty c.leave.ensures.len c.leave.ensures.capacity;
    }
