use Rattle.std.proofs.Common.{◌≡◌, ◌++◌, take}
use Rattle.fm_run.proofs.history.put_each.Given as goal

abbrev pub invariant-turns : goal.invariant-turns
invariant-turns l = l.all.items ≡ l.initial.all.items ++ take l.turn-index l.chunk
