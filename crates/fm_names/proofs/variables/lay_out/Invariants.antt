use Rattle.std.proofs.Common.{drop}
use Rattle.fm_names.proofs.Layouts.{Lays}
use Rattle.fm_names.proofs.variables.lay_out.Given as goal

abbrev pub invariant-first : goal.invariant-first
invariant-first l = Lays l.titles l.heading l.sheet l.layout (drop l.occurrence-index l.first) l.first
