use Rattle.std.proofs.Common.{pos, get_or, length, rules, w64, arith}
use Rattle.std.proofs.lemmas.Int.{to_z-of_z}
use Rattle.fm_proc_slots.specs.Rooms.{slots_in}
use Rattle.fm_proc_slots.proofs.Roomy.{more_left, one_used, room_for_one}
use Rattle.fm_proc_slots.proofs.Taking.{left_next, taken_next}
use Rattle.fm_proc_slots.proofs.open.OpenSlots.take_all.Goals as goal

pub take-requires : goal.take-requires
take-requires c = room_for_one c.args.self.now c.words.self c.words.word-index (length c.args.words.now) c.words-test.true c.words.invariant.room c.requires.slots

pub words-preserved : goal.words-preserved
words-preserved c =
    let words = c.args.words.now in
    let i = c.words.word-index in
    let low = c.words-test.true in
    let this = to_z-of_z w64 (get_or words i (pos 0)) (search rules) in
    let before = slots_in c.words.self in
    let after = slots_in c.take.new.self in
    record {
      ports = taken_next before after words i _ c.take.result low this c.take.ensures.taken c.words.ports.items c.push_reserved.new.self.items _ c.words.invariant.ports c.push_reserved.ensures.items;
      slots = left_next before after words i _ c.take.result low this c.take.ensures.taken _ c.words.invariant.slots;
      room = one_used c.args.self.now c.words.self c.take.new.self i c.words.invariant.room c.take.ensures.room;
      len = omega arith;
      capacity = omega arith;
    }

pub returns-clause-room : goal.returns-clause-room
returns-clause-room c = more_left c.args.self.now c.words.self c.words.word-index (length c.args.words.now) (omega arith) c.words.invariant.room
