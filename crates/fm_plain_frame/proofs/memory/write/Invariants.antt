use Rattle.std.proofs.Common.{◌≡◌, drop}
use Rattle.fm_mean.specs.Places.{written_from}
use Rattle.fm_plain_frame.specs.Memory.{values_of}
use Rattle.fm_plain_frame.proofs.memory.write.Given as goal

abbrev pub invariant-words : goal.invariant-words
invariant-words l = written_from (values_of l.variables l.memory) l.fn.span.variable l.element (drop l.number-index l.words) ≡ written_from (values_of l.variables l.fn.memory) l.fn.span.variable l.fn.span.first l.words
