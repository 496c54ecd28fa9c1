use Rattle.fm_tree.specs.Tree.{trees_from}
use Rattle.fm_plain_frame.specs.Units.{unit_of}
use Rattle.fm_gen_operands.specs.Code.{expressions_code}
use Rattle.fm_gen_operands.proofs.Counts.{location_added}
use Rattle.fm_gen_operands.proofs.seats.location.Goals as goal

pub returns : goal.returns
returns c =
    let p = c.args.unit.now.program.now in
    let u = unit_of c.args.unit.now in
    location_added c.args.out.now (expressions_code p u (trees_from c.args.numbers.now) c.args.next) c.emit_all.new.out c.push.new.self c.args.numbers.now c.in_ok-count.count c.in_ok-emit_all.ensures.code c.in_ok-count.ensures c.in_ok-push.ensures.ok
