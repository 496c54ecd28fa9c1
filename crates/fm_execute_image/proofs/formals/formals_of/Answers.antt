use Rattle.std.proofs.Common.{◌+◌, List, ◌++◌, map, ap, ◌∙◌}
use Rattle.fm_code_kinds.specs.declared.sorts.Cell.{Cell}
use Rattle.fm_code_kinds.specs.declared.sorts.Shape.{Shape}
use Rattle.fm_code_kinds.specs.Shapes.{formal_at}
use Rattle.fm_image_typed.specs.Codes.{formal_in}
use Rattle.fm_image_typed.specs.Shapes.{cell_of}
use Rattle.fm_execute_image.proofs.Places.{next_formal}
use Rattle.fm_execute_image.proofs.formals.formals_of.Goals as goal

pub formals-preserved : goal.formals-preserved
formals-preserved c =
    let before = c.formals.before in
    let known = ap (λ (s : Shape). s.cells) c.in_ok-known.ensures in
    next_formal (map cell_of c.args.unit.now.cells) before c.formals.formals c.add_formal.new.formals c.formals.invariant
    (c.in_ok-add_formal.ensures ∙ ap (λ (cs : List Cell). c.formals.formals ++ formal_in (formal_at cs (before + 1))) known)
