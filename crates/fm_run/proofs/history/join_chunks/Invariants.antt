use Rattle.std.proofs.Common.{◌≡◌, ◌++◌}
use Rattle.std.specs.List.{flat_map}
use Rattle.std.specs.Vec.Iter.{into_iter_items}
use Rattle.fm_run.proofs.history.join_chunks.Given as goal

-- what has moved, and what the rest gives, is what the whole gives
abbrev pub invariant-chunks : goal.invariant-chunks
invariant-chunks l = l.all.items ++ flat_map (λ v. v.items) (into_iter_items l.chunk-iterator) ≡ flat_map (λ v. v.items) l.fn.chunks.items
