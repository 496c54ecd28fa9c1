use Rattle.std.proofs.Common.{rules}
use Rattle.std.proofs.lemmas.Result.{err_from_is_err_and}
use Rattle.fm_plain_eval.specs.Scopes.{scope_of}
use Rattle.fm_plain_eval.proofs.SpanLaws.{place_fails, place_goes}
use Rattle.fm_plain_eval.proofs.spans.place.Goals as goal

pub returns-in_err-element-in-Some : goal.returns-in_err-element-in-Some
returns-in_err-element-in-Some c =
    let fails = place_fails (scope_of c.args.scope.now) c.args.variable.now c.args.next c.in-Some.place c.in-Some.known.now c.in_err-element-in-Some.field-0.0 (search rules) (search rules) (rw c.as_slice-subscripts.ensures at c.in_err-element-in-Some.ensures) in
    let p = err_from_is_err_and c.from_residual-in_err-element-in-Some.result c.from_residual-in_err-element-in-Some.ensures.1 in
    rw (p.1, p.2) fails

pub returns-in_ok-element-in-Some : goal.returns-in_ok-element-in-Some
returns-in_ok-element-in-Some c = (
  place_goes (scope_of c.args.scope.now) c.args.variable.now c.args.next c.in-Some.place c.in-Some.known.now c.in_ok-element-in-Some.element _ (search rules) (search rules) (rw c.as_slice-subscripts.ensures at c.in_ok-element-in-Some.ensures.0) c.single-in-Some.ensures,
  search rules,
)
