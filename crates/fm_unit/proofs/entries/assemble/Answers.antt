use Rattle.std.proofs.Common.{◌<◌, length, ap, ◌∙◌, sym, arith}
use Rattle.fm_unit.specs.Entries.{assembled}
use Rattle.fm_unit.proofs.Fronts.{assembled_more, some_items}
use Rattle.fm_unit.proofs.entries.assemble.Goals as goal

pub returns : goal.returns
returns c =
    let some = some_items _ (sym c.is_empty.ensures ∙ c.if-is_empty.false) in
    let ok = c.args.front.ok.0 in
    let l : 0 < length c.args.front.items = omega arith in
    assembled_more c.args.front.items c.remove-heading.result c.from_vec-specs.result c.from_vec-body.result l c.remove-heading.ensures.value (c.from_vec-specs.ensures ∙ c.remove-heading.ensures.items)
    ∙ ap (assembled c.args.front.items) c.from_vec-body.ensures
