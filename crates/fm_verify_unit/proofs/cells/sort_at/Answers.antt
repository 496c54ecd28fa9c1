use Rattle.std.proofs.Common.{Option, sym, ap, ◌∙◌}
use Rattle.fm_code_kinds.specs.declared.sorts.Cell.{Cell}
use Rattle.fm_verify_unit.specs.Ends.{sort_of}
use Rattle.fm_verify_unit.specs.Telling.{words}
use Rattle.fm_verify_unit.proofs.Ends.{sort_found}
use Rattle.fm_verify_unit.proofs.cells.sort_at.Goals as goal

pub returns : goal.returns
returns c =
    let span = words c.args.first c.args.count in
    c.sort_of.ensures ∙ ap (λ (o : Option Cell). sort_of o span) c.first_past.ensures ∙ sym (sort_found c.args.cells.now span)
