use Rattle.std.proofs.Common.{◌≡◌, ◌+◌, ◌≤◌, length}
use Rattle.fm_trace.specs.Texts.{runs_of}
use Rattle.fm_trace.proofs.writing.count_runs.Given as goal

abbrev pub invariant-runs : goal.invariant-runs
invariant-runs l = (l.count + length (runs_of l.rest) ≡ length (runs_of l.history)) × (l.count + length l.rest ≤ length l.history)

abbrev pub decreases-runs : goal.decreases-runs
decreases-runs l = length l.rest
