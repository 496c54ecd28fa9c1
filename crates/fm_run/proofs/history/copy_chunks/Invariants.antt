use Rattle.std.proofs.Common.{◌≡◌, take}
use Rattle.std.specs.List.{flat_map}
use Rattle.fm_run.proofs.history.copy_chunks.Given as goal

abbrev pub invariant-chunks : goal.invariant-chunks
invariant-chunks l = l.all.items ≡ flat_map (λ v. v.items) (take l.chunk-index l.chunks)
