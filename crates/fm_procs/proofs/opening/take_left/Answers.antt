use Rattle.std.proofs.Common.{◌≡◌, ◌+◌, ap, arith}
use Rattle.fm_code.specs.Passing.{back_words}
use Rattle.fm_proc_slots.proofs.RoomLaws.{fewer}
use Rattle.fm_procs.specs.Rooms.{body_room, left_room}
use Rattle.fm_procs.proofs.opening.take_left.Goals as goal

pub returns-in-Some-clause-room : goal.returns-in-Some-clause-room
returns-in-Some-clause-room c = λ n h.
    let backs = back_words c.args.backs.now in
    let same : left_room c.args.left.body ≡ body_room c.in-Some.body = ap left_room c.in-Some.is in
    c.take_body.ensures.room n (fewer c.args.gains.now ((backs + left_room c.args.left.body) + n) ((backs + body_room c.in-Some.body) + n) (omega arith) h)
