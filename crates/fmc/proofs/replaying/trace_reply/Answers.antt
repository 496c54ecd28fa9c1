use Rattle.std.proofs.Common.{ℕ, List, length, ap, sym, subst, ◌∙◌, arith}
use Rattle.std.proofs.lemmas.Bool.{ltb-false, ltb-true}
use Rattle.fm_base.specs.Verdict.{IsRefusal}
use Rattle.fm_verdict.specs.Program.{IsCheckedOf}
use Rattle.fm_verdict.specs.Verdict.{IsBroken}
use Rattle.fmc.specs.Outcomes.{source_limit}
use Rattle.fmc.proofs.AnswerLaws.{both_ok}
use Rattle.fmc.proofs.ReplayLaws.{refused_by_replay, replied, too_long_by_replay}
use Rattle.std.proofs.lemmas.Result.{IfOk-weaker}
use Rattle.fmc.proofs.replaying.trace_reply.Goals as goal

pub returns-then-is_long-clause-reply : goal.returns-then-is_long-clause-reply
returns-then-is_long-clause-reply c = λ b within read.
    let source = c.args.trace.now.source in
    let over = ltb-true source_limit (length c.as_slice.result.now) (sym c.is_long.ensures ∙ c.if-is_long.true) in
    let same = ap length c.as_slice.ensures in
    too_long_by_replay c.args.vars b c.args.trace.now c.unplayed_reply.result within read (omega (arith, over, same)) c.unplayed_reply.ensures.exit c.unplayed_reply.ensures.text

pub front-requires : goal.front-requires
front-requires c =
    let low = ltb-false source_limit (length c.as_slice.result.now) (sym c.is_long.ensures ∙ c.if-is_long.false) in
    let one = ap length c.as_slice.ensures in
    let two = ap length c.as_slice-2.ensures in
    omega (arith, low, one, two)

pub returns-in-Ok-clause-reply : goal.returns-in-Ok-clause-reply
returns-in-Ok-clause-reply c =
    let trace = c.args.trace.now in
    let low = ltb-false source_limit (length c.as_slice.result.now) (sym c.is_long.ensures ∙ c.if-is_long.false) in
    let one = ap length c.as_slice.ensures in
    let lawful = subst (λ (s : List ℕ). IsCheckedOf s c.in-Ok.program) c.as_slice-2.ensures c.in-Ok.ensures.program in
    IfOk-weaker c.replay_of.result _ _ (λ r h b within read. replied c.args.vars b trace c.in-Ok.program r within read (omega (arith, low, one)) lawful h) c.replay_of.ensures.exit

pub returns-in-Err-Refused-clause-reply : goal.returns-in-Err-Refused-clause-reply
returns-in-Err-Refused-clause-reply c =
    let trace = c.args.trace.now in
    let low = ltb-false source_limit (length c.as_slice.result.now) (sym c.is_long.ensures ∙ c.if-is_long.false) in
    let one = ap length c.as_slice.ensures in
    let refused = subst (λ (s : List ℕ). IsRefusal (IsBroken s) c.in-Err-Refused.field-0) c.as_slice-2.ensures c.in-Err-Refused.ensures.refused in
    both_ok c.refusal_reply.result _ _ _ (λ r e u b within read. refused_by_replay c.args.vars b trace c.in-Err-Refused.refusal r within read (omega (arith, low, one)) (subst (IsRefusal (IsBroken trace.source)) c.in-Err-Refused.field-0-is refused) e u)
    c.refusal_reply.ensures.exit c.refusal_reply.ensures.text
