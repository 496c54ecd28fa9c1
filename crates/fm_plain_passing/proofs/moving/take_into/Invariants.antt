use Rattle.std.proofs.Common.{◌≡◌, ◌+◌, ◌≤◌, ◌++◌, vec_len, vec_capacity}
use Rattle.fm_mean.specs.Places.{taken_ports}
use Rattle.fm_plain_frame.specs.Memory.{values_of}
use Rattle.fm_plain_passing.proofs.PassLaws.{TakesRest}
use Rattle.fm_plain_passing.proofs.moving.take_into.Given as goal

abbrev pub invariant-elements : goal.invariant-elements
invariant-elements l = record {
  rest : TakesRest (values_of l.variables l.memory) l.span.variable l.span.first l.index l.span.count l.room.items (taken_ports (values_of l.variables l.initial.memory) l.span).0 (l.initial.room.items ++ (taken_ports (values_of l.variables l.initial.memory) l.span).1);
  len : vec_len l.room ≡ vec_len l.initial.room + l.index;
  capacity : vec_capacity l.initial.room ≤ vec_capacity l.room;
}
