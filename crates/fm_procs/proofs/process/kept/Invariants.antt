use Rattle.std.proofs.Common.{◌≡◌, map}
use Rattle.fm_proc_events.specs.Phases.{boxed_of}
use Rattle.fm_procs.specs.Readings.{code_of}
use Rattle.fm_procs.proofs.process.kept.Given as goal

-- those so far
abbrev pub invariant-children : goal.invariant-children
invariant-children l = map code_of l.all.items ≡ map boxed_of l.yielded
