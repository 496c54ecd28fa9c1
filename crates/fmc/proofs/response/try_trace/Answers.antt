use Rattle.std.proofs.Common.{subst}
use Rattle.fm_base.specs.Verdict.{IsRefusal}
use Rattle.fm_verdict.specs.Verdict.{IsBroken}
use Rattle.fmc.proofs.AnswerLaws.{both_ok, refused_by_trace}
use Rattle.fmc.proofs.response.try_trace.Goals as goal

pub returns-in-Err-Refused-clause-reply : goal.returns-in-Err-Refused-clause-reply
returns-in-Err-Refused-clause-reply g c =
    let refused = subst (IsRefusal (IsBroken c.args.bytes.now)) c.in-Err-Refused.field-0-is c.in-Err-Refused.ensures.refused in
    both_ok c.refusal_reply.result _ _ _ (λ r e u. refused_by_trace c.args.bytes.now c.args.setup c.in-Err-Refused.refusal r c.requires.size refused e u) c.refusal_reply.ensures.exit c.refusal_reply.ensures.text
