use Rattle.std.proofs.Common.{◌∙◌, ◌+◌, drop, ap}
use Rattle.fm_base.specs.Verdict.{least_from}
use Rattle.fm_rules.specs.BrokenUnit.{broken_at, broken_from}
use Rattle.fm_unit_structure.proofs.Walks.{broken_more}
use Rattle.fm_unit_structure.proofs.rules.structure.Goals as goal

pub entries-preserved : goal.entries-preserved
entries-preserved c =
    let es = c.args.entries.now in
    let k = c.entries.k in
    let best = c.entries.best in
    let rest = broken_from es (k + 1) (drop (k + 1) es) in
    ap (λ b. least_from b rest) (c.keep_broken-best.ensures ∙ ap (λ xs. least_from best (broken_at xs k)) c.in_ok-sheet.ensures)
    ∙ broken_more es k best c.entries-test.true
    ∙ c.entries.invariant
