use Rattle.std.proofs.Common.{◌≡◌, ◌+◌, ◌-◌, ◌≤◌, ◌++◌}
use Rattle.std.specs.String.{string_bytes}
use Rattle.fm_make.specs.Made.{step_of, for_stages, stage_text}
use Rattle.fm_make.proofs.made.push_stages.Given as goal

abbrev pub invariant-loop-stage : goal.invariant-loop-stage
invariant-loop-stage l = (l.stage ≤ l.stages + 1) × (string_bytes l.out ≡ string_bytes l.fn.out ++ for_stages (λ stage. stage_text stage (step_of l.number stage)) (l.stage - 1))
