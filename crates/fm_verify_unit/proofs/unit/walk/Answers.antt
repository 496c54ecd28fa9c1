use Rattle.std.proofs.Common.{◌≡◌, ℕ, Option, ◌++◌, ◌∷◌, [], length, sym, ap, subst, ◌∙◌, arith}
use Rattle.fm_verify_unit.specs.Along.{AllFound, AreMarks, mark_of}
use Rattle.fm_verify_unit.proofs.Walking as walking
use Rattle.fm_verify_unit.proofs.unit.walk.Goals as goal

pub code-preserved : goal.code-preserved
code-preserved c =
    let ss = c.args.shapes.now in
    let u = c.args.shape.now in
    let loops = c.args.own.loops in
    let code = c.args.code.now in
    let n = c.code.at in
    let i = c.instr_at.result in
    let there = c.instr_at.ensures in
    let over = c.in-Some.over in
    let ks = c.step.new.held in
    let h = walking.done_from ss u loops code n i there c.code.held ks over c.in_ok-over.field-0 c.code.invariant.here c.in-Some.is c.in_ok-over.ensures in
    let more = sym c.has_next.ensures ∙ c.if-not-has_next.false in
    let marks = c.in_ok-push.ensures.items ∙ ap (λ (x : Option ℕ). c.code.marks.items ++ x ∷ []) (c.mark.ensures ∙ ap mark_of c.code.invariant.here) in
    let lefts = c.in_ok-push-2.ensures.items ∙ ap (λ (x : Option ℕ). c.code.lefts.items ++ x ∷ []) c.left.ensures in
    record {
      here = walking.next ss u loops code n i there ks over h;
      found = walking.found_more ss u loops code n i there ks over h more c.code.invariant.found;
      marks = walking.all_more ss u loops code n i there ks over h c.code.marks.items c.code.lefts.items _ _ marks lefts c.code.invariant.marks;
    }

pub returns : goal.returns
returns c =
    let e : c.code.at ≡ length c.args.code.now = omega arith in (
      subst (λ (n : ℕ). AllFound c.args.shapes.now c.args.shape.now c.args.own.loops c.args.code.now n) e c.code.invariant.found,
      subst (λ (n : ℕ). AreMarks c.args.shapes.now c.args.shape.now c.args.own.loops c.args.code.now c.code.marks.items c.code.lefts.items n) e c.code.invariant.marks,
    )
