use Rattle.std.proofs.Common.{◌≡◌, ◌+◌, ◌-◌, ◌≤◌, ◌++◌}
use Rattle.std.specs.String.{string_bytes}
use Rattle.fm_make.specs.Made.{for_stages, call_text}
use Rattle.fm_make.proofs.units.push_calls.Given as goal

abbrev pub invariant-loop-stage : goal.invariant-loop-stage
invariant-loop-stage l = (l.stage ≤ l.stages + 1) × (string_bytes l.out ≡ string_bytes l.fn.out ++ for_stages call_text (l.stage - 1))
