use Rattle.std.proofs.Common.{◌≡◌, ◌+◌, ◌≤◌, ◌++◌, length, vec_len, vec_capacity}
use Rattle.fm_mean.specs.Places.{exchange_all}
use Rattle.fm_plain_frame.specs.Memory.{values_of}
use Rattle.fm_plain_passing.proofs.PassLaws.{PutsRest}
use Rattle.fm_plain_passing.proofs.moving.put_from.Given as goal

abbrev pub invariant-ports : goal.invariant-ports
invariant-ports l = record {
  rest : PutsRest (values_of l.variables l.memory) l.span.variable l.span.first l.index l.waiting.items l.room.items (exchange_all (values_of l.variables l.initial.memory) l.span.variable l.span.first l.initial.waiting.items).0 (l.initial.room.items ++ (exchange_all (values_of l.variables l.initial.memory) l.span.variable l.span.first l.initial.waiting.items).1);
  count : l.index + length l.waiting.items ≡ length l.initial.waiting.items;
  len : vec_len l.room ≡ vec_len l.initial.room + l.index;
  capacity : vec_capacity l.initial.room ≤ vec_capacity l.room;
}

abbrev pub decreases-ports : goal.decreases-ports
decreases-ports l = length l.waiting.items
