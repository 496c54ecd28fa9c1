use Rattle.std.proofs.Common.{◌≡◌, map, take}
use Rattle.fm_graph.specs.Search.{name_of}
use Rattle.fm_graph.proofs.strong.names_of.Given as goal

abbrev pub invariant-loop-mark : goal.invariant-loop-mark
invariant-loop-mark l = l.names.items ≡ map name_of (take l.mark-index l.marks)
