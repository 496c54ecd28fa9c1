use Rattle.std.proofs.Common.{◌≡◌, ◌+◌, ◌≤◌, drop, vec_len, vec_capacity}
use Rattle.fm_mean.specs.Calls.{entered_all}
use Rattle.fm_plain_frame.specs.Units.{unit_of}
use Rattle.fm_plain_passing.specs.Between.{between}
use Rattle.fm_plain_passing.specs.Rooms.{all_taken}
use Rattle.fm_plain_passing.proofs.entering.enter_all.Given as goal

abbrev pub invariant-arguments : goal.invariant-arguments
invariant-arguments l = record {
  rest : entered_all (unit_of l.callee) (l.index + 1) (drop l.index l.arguments) (between l.caller l.mine (unit_of l.callee).names.variables l.theirs l.room.items)
      ≡ entered_all (unit_of l.callee) 1 l.arguments (between l.caller l.initial.mine (unit_of l.callee).names.variables l.initial.theirs l.initial.room.items);
  room : vec_len l.room + all_taken (drop l.index l.arguments) ≤ vec_capacity l.room;
}
