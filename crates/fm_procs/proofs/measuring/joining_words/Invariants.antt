use Rattle.std.proofs.Common.{◌≡◌, ◌+◌, drop, map}
use Rattle.fm_proc_language.specs.Processes.{joining_words}
use Rattle.fm_proc_events.specs.Phases.{kid_of}
use Rattle.fm_procs.proofs.measuring.joining_words.Given as goal

abbrev pub invariant-kids : goal.invariant-kids
invariant-kids l = l.words + joining_words (map kid_of (drop l.kid-index l.kids)) ≡ joining_words (map kid_of l.kids)
