use Rattle.std.proofs.Common.{◌≡◌, ◌++◌, take}
use Rattle.fm_procs.proofs.putting.copy_lines.Given as goal

abbrev pub invariant-copies : goal.invariant-copies
invariant-copies l = l.lines ≡ l.initial.lines ++ take l.line-index l.more
