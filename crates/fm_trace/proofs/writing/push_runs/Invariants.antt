use Rattle.std.proofs.Common.{◌≡◌, ◌++◌, length}
use Rattle.std.specs.List.{flat_map}
use Rattle.std.specs.String.{string_bytes}
use Rattle.fm_trace.specs.Texts.{runs_of}
use Rattle.fm_trace.specs.Writing.{AreSmall, entry_line}
use Rattle.fm_trace.proofs.writing.push_runs.Given as goal

abbrev pub invariant-runs : goal.invariant-runs
invariant-runs l = record {
  text : string_bytes l.out ++ flat_map entry_line (runs_of l.rest) ≡ string_bytes l.fn.out ++ flat_map entry_line (runs_of l.history);
  small : AreSmall (runs_of l.rest) → AreSmall (runs_of l.history);
}

abbrev pub decreases-runs : goal.decreases-runs
decreases-runs l = length l.rest
