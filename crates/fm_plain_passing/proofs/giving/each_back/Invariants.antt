use Rattle.std.proofs.Common.{◌≡◌, ◌+◌, ◌≤◌, drop, vec_len, vec_capacity}
use Rattle.fm_mean.specs.Places.{all_back}
use Rattle.fm_plain_passing.specs.Between.{between}
use Rattle.fm_plain_passing.specs.Rooms.{all_given}
use Rattle.fm_plain_passing.proofs.giving.each_back.Given as goal

abbrev pub invariant-backs : goal.invariant-backs
invariant-backs l = record {
  rest : all_back (between l.caller l.mine l.callee l.theirs l.room.items) (drop l.back-index l.backs) ≡ all_back (between l.caller l.initial.mine l.callee l.initial.theirs l.initial.room.items) l.backs;
  room : vec_len l.room + all_given l.callee (drop l.back-index l.backs) ≤ vec_capacity l.room;
}
