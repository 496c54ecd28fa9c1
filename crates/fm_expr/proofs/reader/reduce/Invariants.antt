use Rattle.std.proofs.Common.{◌≡◌, vec_len}
use Rattle.fm_expr.specs.Reading.{stack_of, reduction}
use Rattle.fm_expr.proofs.reader.reduce.Given as goal

-- what is left to close gives what the whole gives
abbrev pub invariant-loop-frame : goal.invariant-loop-frame
invariant-loop-frame l =
    reduction l.level (stack_of l.frames.items) l.tree ≡ reduction l.level (stack_of l.initial.frames.items) l.initial.tree

abbrev pub decreases-loop-frame : goal.decreases-loop-frame
decreases-loop-frame l = vec_len l.frames
