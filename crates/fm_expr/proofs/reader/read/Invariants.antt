use Rattle.std.proofs.Common.{◌≡◌, [], None, drop}
use Rattle.fm_expr.specs.Reading.{stack_of, run}
use Rattle.fm_expr.proofs.reader.read.Given as goal

abbrev pub invariant-loop-at : goal.invariant-loop-at
invariant-loop-at l = run (drop l.at-counter l.tokens) (stack_of l.frames.items) l.tree l.at-counter ≡ run l.tokens [] None 0
