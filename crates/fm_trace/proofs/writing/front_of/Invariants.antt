use Rattle.std.proofs.Common.{◌≡◌, replicate, take}
use Rattle.fm_trace.proofs.writing.front_of.Given as goal

abbrev pub invariant-places : goal.invariant-places
invariant-places l = take l.place l.history ≡ replicate l.place l.turn
