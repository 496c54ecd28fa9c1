use Rattle.std.proofs.Common.{◌≡◌, ◌+◌, ◌≤◌, vec_len, vec_capacity}
use Rattle.fm_plain_passing.specs.Between.{between, passed}
use Rattle.fm_plain_passing.proofs.PassLaws.{PassesRest}
use Rattle.fm_plain_passing.proofs.entering.pass.Given as goal

abbrev pub invariant-elements : goal.invariant-elements
invariant-elements l = record {
  rest : PassesRest (between l.caller l.mine l.callee l.theirs l.room.items) l.span.variable l.span.first l.formal l.index l.span.count (passed l.span l.formal (between l.caller l.initial.mine l.callee l.initial.theirs l.initial.room.items));
  len : vec_len l.room ≡ vec_len l.initial.room + l.index;
  capacity : vec_capacity l.initial.room ≤ vec_capacity l.room;
}
