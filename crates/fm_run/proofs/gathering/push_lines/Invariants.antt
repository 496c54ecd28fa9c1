use Rattle.std.proofs.Common.{◌≡◌, ◌++◌, map, take}
use Rattle.fm_run.proofs.gathering.push_lines.Given as goal

abbrev pub invariant-lines : goal.invariant-lines
invariant-lines l = l.all.items ≡ l.initial.all.items ++ map (λ line. record { path = l.path; bytes = line }) (take l.line-index l.lines)
