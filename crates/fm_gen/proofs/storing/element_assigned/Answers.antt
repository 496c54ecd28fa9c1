use Rattle.std.proofs.Common.{ap, ◌∙◌, ◌++◌, ◌∷◌, []}
use Rattle.fm_plain_frame.specs.Units.{unit_of}
use Rattle.fm_gen_operands.specs.Code.{expression_code}
use Rattle.fm_gen.proofs.Assigned as assigned
use Rattle.fm_gen.proofs.storing.element_assigned.Goals as goal

pub returns : goal.returns
returns c place =
    let p = c.args.unit.now.program.now in
    let u = unit_of c.args.unit.now in
    assigned.element_assigned p u place c.args.variable.now c.args.subscripts.now (expression_code p u c.args.assigned.value.now c.args.assigned.references) c.args.assigned.next
    c.args.out.now c.emit_all.new.out c.located.new.out c.emit.new.out c.push.new.self c.requires c.in_ok-emit_all.ensures.code c.in_ok-located.ensures c.in_ok-emit.ensures.code (c.in_ok-push.ensures.ok ∙ ap (λ x. c.emit.new.out ++ x ∷ []) c.element_store.ensures)
