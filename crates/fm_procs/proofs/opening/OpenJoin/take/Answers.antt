use Rattle.std.proofs.Common.{◌≡◌, List, refl, sym, ap, ◌∙◌}
use Rattle.fm_code.specs.declared.body.Back.{Back}
use Rattle.fm_proc_language.specs.Processes.{Kid, kid_back}
use Rattle.fm_procs.specs.Gains.{first_kid, gained, mine_of}
use Rattle.fm_procs.specs.Joinings.{kids_of}
use Rattle.fm_procs.specs.Lefts.{left_of}
use Rattle.fm_procs.specs.Rooms.{left_room}
use Rattle.fm_procs.proofs.Joinings.{one_joined, room_behind, room_first}
use Rattle.fm_procs.proofs.opening.OpenJoin.take.Goals as goal

pub take_left-requires : goal.take_left-requires
take_left-requires c =
    let now = c.args.self.now in
    let kid : Kid = record { unit = c.next_kid-kid.result.unit; backs = c.as_slice.result.now } in
    let first : kid ≡ first_kid (kids_of now) = ap (λ (l : List Back). record kid { backs = l }) c.as_slice.ensures ∙ c.next_kid-kid.ensures.kid in
    record { room = room_first now.gains kid (kids_of now) (left_room c.args.left.body) first c.requires.room }

pub returns-clause-joined : goal.returns-clause-joined
returns-clause-joined c = λ y z lefts h.
    let now = c.args.self.now in
    let left = c.args.left in
    let kid : Kid = record { unit = c.next_kid-kid.result.unit; backs = c.as_slice.result.now } in
    let first : kid ≡ first_kid (kids_of now) = ap (λ (l : List Back). record kid { backs = l }) c.as_slice.ensures ∙ c.next_kid-kid.ensures.kid in
    one_joined y z lefts (left_of left) now (record { gains = c.take_left.new.gains; kids = c.next_kid-kid.new.kids; next = now.next; cost = now.cost }) h refl refl c.next_kid-kid.ensures.rest
    (ap (λ (k : Kid). mine_of (kid_back (gained now.gains) k left.slots left.body)) (sym first) ∙ c.take_left.ensures.back)

pub returns-clause-room : goal.returns-clause-room
returns-clause-room c =
    let now = c.args.self.now in
    let kid : Kid = record { unit = c.next_kid-kid.result.unit; backs = c.as_slice.result.now } in
    let first : kid ≡ first_kid (kids_of now) = ap (λ (l : List Back). record kid { backs = l }) c.as_slice.ensures ∙ c.next_kid-kid.ensures.kid in
    room_behind now.gains c.take_left.new.gains kid (kids_of now) _ (left_room c.args.left.body) first c.next_kid-kid.ensures.rest c.take_left.ensures.room
