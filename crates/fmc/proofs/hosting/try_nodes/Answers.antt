use Rattle.std.proofs.Common.{subst}
use Rattle.fm_base.specs.Rules.{refusal_text}
use Rattle.fm_base.specs.Verdict.{IsRefusal}
use Rattle.fm_base.specs.declared.rule.Refusal.{Refusal}
use Rattle.fm_verdict.specs.Verdict.{IsBroken}
use Rattle.fmc.specs.Outcomes.{IsUnplayed}
use Rattle.fmc.specs.Reply.{bytes_of, places_in}
use Rattle.fmc.proofs.AnswerLaws.{both_ok}
use Rattle.fmc.proofs.NodesLaws.{refused_by_hosts}
use Rattle.fmc.proofs.hosting.try_nodes.Goals as goal

pub returns-in-Err-Refused-clause-reply : goal.returns-in-Err-Refused-clause-reply
returns-in-Err-Refused-clause-reply c =
    let refused = subst (IsRefusal (IsBroken c.args.bytes.now)) c.in-Err-Refused.field-0-is c.in-Err-Refused.ensures.refused in
    both_ok c.refusal_reply.result _ _ _
    (λ r e u. refused_by_hosts c.args.bytes.now c.args.number c.args.setup c.args.vars c.in-Err-Refused.refusal r c.requires refused e
    (subst (λ (v : Refusal). IsUnplayed r.ran.history.items (places_in r.ran) (bytes_of r.text) (refusal_text v)) c.in-Err-Refused.refusal-is u))
    c.refusal_reply.ensures.exit c.refusal_reply.ensures.text
