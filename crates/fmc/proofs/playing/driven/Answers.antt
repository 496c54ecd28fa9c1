use Rattle.std.proofs.Common.{ap, ◌∙◌}
use Rattle.fm_table.specs.Told.{Told}
use Rattle.fmc.proofs.playing.driven.Goals as goal

pub returns-then-is_own : goal.returns-then-is_own
returns-then-is_own g c =
    let is = c.is_own.ensures c.if-is_own.true in
    (is.0 ∙ c.deref.ensures, is.1, ap (λ (a : Told). a.out) c.recall.ensures.told)
