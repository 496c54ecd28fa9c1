use Rattle.fm_code.specs.Passing.{back_words}
use Rattle.fm_procs.specs.Rooms.{body_room}
use Rattle.fm_procs.proofs.Joinings.{child_back, room_dropped, room_for_rest}
use Rattle.fm_procs.proofs.opening.take_body.Goals as goal

pub drop_body-requires : goal.drop_body-requires
drop_body-requires c = record {
  room = room_for_rest c.args.gains.now c.give_back_if.new.gains (back_words c.args.backs.now) (body_room c.args.body) c.give_back_if.ensures.room c.requires.room;
}

pub returns-clause-back : goal.returns-clause-back
returns-clause-back c =
    child_back c.args.gains.now c.give_back_if.new.gains c.give_back_if.new.child c.args.body c.args.slots _ c.args.unit c.args.backs.now c.drop_body.new.drops.items
    c.replace-words.ensures.value c.give_back_if.ensures.given c.drop_body.ensures.drops

pub returns-clause-room : goal.returns-clause-room
returns-clause-room c =
    room_dropped c.args.gains.now c.give_back_if.new.gains c.drop_body.new.drops (back_words c.args.backs.now) (body_room c.args.body)
    c.give_back_if.ensures.room c.drop_body.ensures.len c.drop_body.ensures.capacity
