use Rattle.std.proofs.Common.{◌≡◌, vec_len}
use Rattle.fm_expr.specs.Reading.{stack_of, last_whole}
use Rattle.fm_expr.proofs.reader.last_whole.Given as goal

abbrev pub invariant-loop-frame : goal.invariant-loop-frame
invariant-loop-frame l =
    last_whole (stack_of l.frames.items) l.found
    ≡ last_whole (stack_of l.initial.frames.items) l.initial.found

abbrev pub decreases-loop-frame : goal.decreases-loop-frame
decreases-loop-frame l = vec_len l.frames
