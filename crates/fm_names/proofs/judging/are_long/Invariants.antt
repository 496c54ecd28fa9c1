use Rattle.std.proofs.Common.{drop}
use Rattle.fm_names.proofs.Layouts.{Counts}
use Rattle.fm_names.proofs.judging.are_long.Given as goal

abbrev pub invariant-first : goal.invariant-first
invariant-first l = Counts l.titles l.heading l.sheet l.words (drop l.occurrence-index l.first) l.first
