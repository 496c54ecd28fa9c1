use Rattle.std.proofs.Common.{List, reverse, sym, ap, ◌∙◌}
use Rattle.fm_code_kinds.specs.declared.kinds.Passed.{Passed}
use Rattle.fm_code_kinds.specs.Effects.{operands_over}
use Rattle.fm_verify_unit.proofs.Places.{over_first}
use Rattle.fm_verify_unit.proofs.building.push_operands.Goals as goal

pub operands-preserved : goal.operands-preserved
operands-preserved c =
    let held = c.operands.held in
    let behind = c.in-Some.behind.now in
    c.operands.invariant
    ∙ ap (λ (os : List Passed). operands_over (reverse os) held) c.in-Some.ensures
    ∙ over_first c.in-Some.operand behind held
    ∙ ap (operands_over (reverse behind)) (sym c.in_ok-push.ensures)
