use Rattle.std.proofs.Common.{◌+◌, ◌≤◌, drop, vec_len, vec_capacity}
use Rattle.fm_mean.specs.Calls.{kept}
use Rattle.fm_plain_frame.specs.Memory.{values_of}
use Rattle.fm_plain_passing.specs.Rooms.{all_lost}
use Rattle.fm_plain_passing.proofs.KeepLaws.{KeepsRest}
use Rattle.fm_plain_passing.proofs.keeping.keep_formals.Given as goal

abbrev pub invariant-variables : goal.invariant-variables
invariant-variables l = record {
  rest : KeepsRest l.place l.variables (values_of l.variables l.memory) l.room.items (kept l.variables (values_of l.variables l.initial.memory)).0 (kept l.variables (values_of l.variables l.initial.memory)).1;
  room : vec_len l.room + all_lost (drop l.place l.variables) ≤ vec_capacity l.room;
}
