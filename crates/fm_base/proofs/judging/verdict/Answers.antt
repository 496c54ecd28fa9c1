use Rattle.std.proofs.Common.{refl, arith, sym, subst, get_or, List}
use Rattle.fm_base.specs.declared.rule.Rule.TheVariants.{E01}
use Rattle.fm_base.specs.declared.rule.Rule.{Rule}
use Rattle.fm_base.specs.Verdict.{IsVerdict, SomePlace}
use Rattle.fm_base.proofs.Least.{seen_whole, seen_broken, seen_place, seen_all}
use Rattle.fm_base.proofs.judging.verdict.Goals as goal
use Rattle.fm_base.proofs.judging.verdict.Goals.{then-breaks, else-breaks}

pub loop-rule-preserved : goal.loop-rule-preserved
loop-rule-preserved g c =
    elim c.if-breaks.branch [
      | then-breaks w ↦ rw (w.best-is, w.keep_earlier-best.ensures)
          (seen_broken _ _ _ c.loop-place.place c.loop-rule.rule-index E01 (record { line = c.line-line.result; rule = get_or c.rules-rules.result.now c.loop-rule.rule-index E01 }) c.loop-rule.best
          (omega arith) refl (sym c.line-line.ensures) (cc) c.loop-rule.invariant)
      | else-breaks w ↦ rw w.best-is (seen_whole _ _ _ _ _ E01 _ (omega arith) (cc) c.loop-rule.invariant)
    ]

pub loop-place-preserved : goal.loop-place-preserved
loop-place-preserved g c = seen_place _ _ _ _ _ _ (omega arith) c.loop-rule.invariant

pub returns : goal.returns
returns g c =
    subst (λ (rs : List Rule). IsVerdict (SomePlace (g.J.Judge.places c.args.judge.now) (g.J.Judge.line c.args.judge.now) rs (g.J.Judge.breaks c.args.judge.now)) c.loop-place.best)
    c.rules-rules.ensures (seen_all _ _ _ _ _ _ (omega arith) c.loop-place.invariant)
