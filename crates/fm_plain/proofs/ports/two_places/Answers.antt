use Rattle.std.proofs.Common.{rules}
use Rattle.std.proofs.lemmas.Result.{err_from_is_err_and}
use Rattle.fm_plain.specs.Standing.{scope_in}
use Rattle.fm_plain.proofs.FailureLaws.{two_fail}
use Rattle.fm_plain.proofs.ports.two_places.Goals as goal

pub returns-in_err-other : goal.returns-in_err-other
returns-in_err-other c =
    let fails = two_fail (scope_in c.args.here.now c.args.top.now) c.args.first.now c.args.second.now c.in_ok-one.one c.in_ok-one.next c.in_err-other.field-0.0 (search rules) (search rules) (search rules) in
    let p = err_from_is_err_and c.from_residual-in_err-other.result c.from_residual-in_err-other.ensures.1 in
    rw (p.1, p.2) fails
