use Rattle.std.proofs.Common.{option_to_list}
use Rattle.fm_tree.specs.Tree.{trees_from}
use Rattle.fm_plain_frame.specs.Units.{unit_of}
use Rattle.fm_gen_operands.specs.Code.{expressions_code}
use Rattle.fm_gen_operands.proofs.Counts.{located_added}
use Rattle.fm_gen_operands.proofs.places.located.Goals as goal

pub returns-clause-code : goal.returns-clause-code
returns-clause-code c =
    let p = c.args.unit.now.program.now in
    let u = unit_of c.args.unit.now in
    located_added c.args.out.now (expressions_code p u (trees_from c.args.subscripts.now) c.args.next) c.emit_all.new.out c.element_located.new.out c.args.subscripts.now c.in_ok-next.ensures.code c.args.variable.now (option_to_list c.args.behind) c.in_ok-element_located.ensures
