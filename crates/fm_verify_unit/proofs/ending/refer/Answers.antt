use Rattle.std.proofs.Common.{◌≡◌, suc, sym, ap, ◌∙◌, arith}
use Rattle.fm_code_kinds.specs.Effects.{calls_fit, operands_on, results_in}
use Rattle.fm_code_kinds.specs.Shapes.{is_function}
use Rattle.fm_verify_unit.proofs.Places.{refers, results_below}
use Rattle.fm_verify_unit.proofs.ending.refer.Goals as goal

pub returns-then-to-next : goal.returns-then-to-next
returns-then-to-next c =
    let held = c.args.held.now in
    let left : results_in c.calls_fit.new.held ≡ results_in held = ap results_in c.in_ok-fit.ensures.1 ∙ results_below held in
    let to : c.args.to ≡ suc c.args.at = omega (arith, c.in_ok-next.ensures) in
    let more : c.in_ok-results.results ≡ suc (results_in held) = omega (arith, c.in_ok-results.ensures, c.results.ensures, left) in
    refers (calls_fit c.args.shapes.now c.args.shape.now c.args.callee is_function (operands_on held)) c.args.to c.args.at (results_in held) c.in_ok-results.results
    (sym c.in_ok-fit.ensures.0 ∙ c.if-fit.true) to more
