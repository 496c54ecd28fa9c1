use Rattle.std.proofs.Common.{arith, ap, sym, ◌∙◌, ◌+◌}
use Rattle.fm_tree.specs.Tree.{node_count, trees_from}
use Rattle.fm_tree.proofs.Nodes.{in_list}
use Rattle.fm_mean.specs.Evaluate.{reference_of, refs_in_all}
use Rattle.fm_plain_frame.specs.Units.{unit_of}
use Rattle.fm_gen_operands.specs.Code.{expressions_code}
use Rattle.fm_mean.specs.Referring.{names_in}
use Rattle.fm_plain_frame.specs.References.{reference_by}
use Rattle.fm_gen_operands.proofs.Counts.{element_added, intrinsic_added}
use Rattle.fm_gen_operands.proofs.expressions.+emitting.Goals as goal

pub emit_all-emit-requires : goal.emit_all-emit-requires
emit_all-emit-requires t c =
    let below = in_list c.args.trees.now c.trees.tree-index c.tree-item.result c.trees-test.true in
    let item = ap node_count c.tree-item.is in
    (omega (arith, below, item, c.decreases), tt)

pub emit_reference-returns-in_ok-element-in-Element-clause-code : goal.emit_reference-returns-in_ok-element-in-Element-clause-code
emit_reference-returns-in_ok-element-in-Element-clause-code t c =
    let p = c.args.unit.now.program.now in
    let u = unit_of c.args.unit.now in
    element_added c.args.out.now (expressions_code p u (trees_from c.args.arguments.now) c.args.next) c.emit_all.new.out c.element.new.out c.args.arguments.now (reference_of (names_in p u) c.args.name.now)
    (c.args.next + refs_in_all (names_in p u) (trees_from c.args.arguments.now)) c.in_ok-next-in-Element.ensures.code c.in-Element.field-0 c.in-Element.variable.now (ap reference_by (sym c.in-Element.is) ∙ c.referent.ensures) c.in_ok-element-in-Element.ensures

pub emit_reference-returns-in_ok-push-in-Built-clause-code : goal.emit_reference-returns-in_ok-push-in-Built-clause-code
emit_reference-returns-in_ok-push-in-Built-clause-code t c =
    let p = c.args.unit.now.program.now in
    let u = unit_of c.args.unit.now in
    intrinsic_added c.args.out.now (expressions_code p u (trees_from c.args.arguments.now) c.args.next) c.emit_all-in-Built.new.out c.push-in-Built.new.self c.args.arguments.now (reference_of (names_in p u) c.args.name.now)
    (c.args.next + refs_in_all (names_in p u) (trees_from c.args.arguments.now)) c.in_ok-next-in-Built.ensures.code c.in-Built.intrinsic c.in_ok-count-in-Built.count c.in_ok-count-in-Built.ensures
    (ap reference_by (sym c.in-Built.is) ∙ c.referent.ensures) c.in_ok-push-in-Built.ensures.ok
