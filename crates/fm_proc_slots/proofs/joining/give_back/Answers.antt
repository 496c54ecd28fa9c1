use Rattle.std.proofs.Common.{◌+◌, [], ◌≡◌, drop, get_or, ap, arith, false}
use Rattle.std.proofs.lemmas.List.{drop_all, drop_more}
use Rattle.fm_code.specs.declared.body.Back.{Back}
use Rattle.fm_code.specs.Passing.{back_words}
use Rattle.fm_proc_slots.proofs.Alike.{rest_given}
use Rattle.fm_proc_slots.proofs.RoomLaws.{fewer, room_for_one, room_left}
use Rattle.fm_proc_slots.proofs.joining.give_back.Goals as goal

abbrev no_back : Back
no_back = record { from = 0; to = 0; words = 0; port = false }

pub give_one-requires : goal.give_one-requires
give_one-requires c =
    let bs = c.args.backs.now in
    let i = c.backs.back-index in
    record { room = room_for_one c.args.gains.now c.backs.gains (back_words bs) (drop i bs) (drop (i + 1) bs) (get_or bs i no_back) (drop_more bs i no_back c.backs-test.true) c.backs.invariant.room c.requires.room }

pub backs-preserved : goal.backs-preserved
backs-preserved c =
    let bs = c.args.backs.now in
    let i = c.backs.back-index in
    let next = drop_more bs i no_back c.backs-test.true in
    record {
      given = rest_given _ (drop i bs) (drop (i + 1) bs) (get_or bs i no_back) c.backs.gains c.give_one.new.gains c.backs.child c.give_one.new.child next c.backs.invariant.given c.give_one.ensures.given;
      room = room_left c.args.gains.now c.backs.gains c.give_one.new.gains (back_words bs) (drop i bs) (drop (i + 1) bs) (get_or bs i no_back) next c.backs.invariant.room c.give_one.ensures.room;
    }

pub returns-clause-room : goal.returns-clause-room
returns-clause-room c = λ n h.
    let bs = c.args.backs.now in
    let end : drop c.backs.back-index bs ≡ [] = drop_all c.backs.back-index bs (omega arith) in
    let none : back_words (drop c.backs.back-index bs) ≡ 0 = ap back_words end in
    fewer c.backs.gains (back_words (drop c.backs.back-index bs) + n) n (omega arith) (c.backs.invariant.room n h)
