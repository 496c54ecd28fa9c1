use Rattle.std.proofs.Common.{◌+◌, ◌≤◌, vec_len, vec_capacity}
use Rattle.fm_mean.specs.Places.{ports_back}
use Rattle.fm_plain_passing.specs.Between.{between}
use Rattle.fm_plain_passing.proofs.PassLaws.{GivesRest}
use Rattle.fm_plain_passing.proofs.giving.ports_back.Given as goal

abbrev pub invariant-elements : goal.invariant-elements
invariant-elements l = record {
  rest : GivesRest (between l.caller l.mine l.callee l.theirs l.room.items) l.back.formal l.back.place.variable l.back.place.first l.index l.back.place.count
      (ports_back (between l.caller l.initial.mine l.callee l.initial.theirs l.initial.room.items) l.back.formal 0 l.back.place.variable l.back.place.first l.back.place.count);
  len : vec_len l.room ≤ vec_len l.initial.room + l.index;
  capacity : vec_capacity l.initial.room ≤ vec_capacity l.room;
}
