use Rattle.std.proofs.Common.{◌≡◌, suc, ◌-◌, ◌∙◌, arith}
use Rattle.fm_gen.proofs.FormalRows.{next_formal}
use Rattle.fm_gen.proofs.describing.formals_of.Goals as goal

pub formals-preserved : goal.formals-preserved
formals-preserved c =
    let left : c.formals.left ≡ suc (c.formals.left - 1) = omega (arith, c.formals-test.true) in
    next_formal c.args.variables.now c.formals.number c.in_ok-number.number c.formals.left (c.formals.left - 1) c.formals.formals c.add_formal.new.formals left c.in_ok-number.ensures c.in_ok-add_formal.ensures
    ∙ c.formals.invariant
