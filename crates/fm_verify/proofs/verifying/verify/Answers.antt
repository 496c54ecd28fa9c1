use Rattle.std.proofs.Common.{ℕ, Option, refl, sym, subst, ◌∙◌, arith}
use Rattle.fm_verify.specs.Judged.{UnitsJudged}
use Rattle.fm_verify.proofs.Units.{all_typed, number_inside, one_bad, whole_bad}
use Rattle.fm_verify.proofs.verifying.verify.Goals as goal

pub returns-then-not-is_whole : goal.returns-then-not-is_whole
returns-then-not-is_whole c = whole_bad c.args.image (sym c.is_whole.ensures ∙ c.if-not-is_whole.true)

pub overflow_cast-result : goal.overflow_cast-result
overflow_cast-result c =
    let bad = subst (λ (o : Option ℕ). UnitsJudged c.args.image o) c.in-Some.is c.in_ok-number.ensures in
    let less = number_inside c.args.image c.in-Some.number bad in
    omega (arith, less, c.requires)

pub overflow_add-result : goal.overflow_add-result
overflow_add-result c =
    let bad = subst (λ (o : Option ℕ). UnitsJudged c.args.image o) c.in-Some.is c.in_ok-number.ensures in
    let less = number_inside c.args.image c.in-Some.number bad in
    omega (arith, less, c.requires)

pub invariant_of-result : goal.invariant_of-result
invariant_of-result c =
    let all = subst (λ (o : Option ℕ). UnitsJudged c.args.image o) c.in-None.is c.in_ok-number.ensures in
    all_typed c.args.image (sym c.is_whole.ensures ∙ c.if-not-is_whole.false) all

pub returns-in-Some : goal.returns-in-Some
returns-in-Some c =
    let bad = subst (λ (o : Option ℕ). UnitsJudged c.args.image o) c.in-Some.is c.in_ok-number.ensures in
    one_bad c.args.image c.in-Some.number (sym c.is_whole.ensures ∙ c.if-not-is_whole.false) bad

pub returns-in-None : goal.returns-in-None
returns-in-None c =
    let all = subst (λ (o : Option ℕ). UnitsJudged c.args.image o) c.in-None.is c.in_ok-number.ensures in
    (refl, all_typed c.args.image (sym c.is_whole.ensures ∙ c.if-not-is_whole.false) all)
