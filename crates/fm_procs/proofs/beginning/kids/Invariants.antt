use Rattle.std.proofs.Common.{◌≡◌, ◌++◌, drop, map}
use Rattle.fm_proc_language.specs.Processes as code
use Rattle.fm_proc_events.specs.Phases.{kid_of}
use Rattle.fm_procs.proofs.beginning.kids.Given as goal

abbrev pub invariant-starts : goal.invariant-starts
invariant-starts l = map kid_of l.kids ++ map code.kid_of (drop l.start-index l.starts) ≡ map code.kid_of l.starts
