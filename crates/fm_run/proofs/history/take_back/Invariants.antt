use Rattle.std.proofs.Common.{◌≡◌, ◌++◌, length}
use Rattle.std.specs.List.{flat_map}
use Rattle.fm_run.proofs.history.take_back.Given as goal

abbrev pub invariant-chunks : goal.invariant-chunks
invariant-chunks l = flat_map (λ v. v.items) l.whole.items ++ l.last.items ≡ flat_map (λ v. v.items) l.initial.whole.items ++ l.initial.last.items

abbrev pub decreases-chunks : goal.decreases-chunks
decreases-chunks l = length l.whole.items
