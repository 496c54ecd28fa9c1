use Rattle.std.proofs.lemmas.List.{take_all}
use Rattle.std.proofs.Common.{ap, ◌∙◌, arith}
use Rattle.std.specs.List.{flat_map}
use Rattle.fm_run.proofs.history.copy_chunks.Goals as goal

pub returns : goal.returns
returns c = c.chunks.invariant ∙ ap (flat_map (λ v. v.items)) (take_all _ c.args.chunks.now (omega arith))
