use Rattle.std.proofs.Common.{◌≡◌, ◌+◌, ◌-◌, ap, length, ◌∙◌, arith}
use Rattle.std.specs.List.{flat_map}
use Rattle.fm_run.specs.Entries.{lengthened}
use Rattle.fm_run.proofs.EntryLaws.{got_at, lengthened_set}
use Rattle.fm_run.proofs.history.lengthen_last.Goals as goal

pub returns-clause-ok : goal.returns-clause-ok
returns-clause-ok c =
    let last = c.take_back.new.last in
    let k = c.len-count.result - 1 in
    let whole : k + 1 ≡ length last.items = omega (arith, c.len-count.ensures, last.ok.0, c.if-count-eq0.false) in
    lengthened_set (flat_map (λ v. v.items) c.take_back.new.whole.items) last.items c.index-entry.result.now c.in_ok-grown.grown c.args.steps k c.in_ok-grown.ensures whole (got_at last.items k c.index-entry.result.now whole c.index-entry.ensures)
    ∙ ap (lengthened c.args.steps) c.take_back.ensures.same
