use Rattle.std.proofs.Common.{subst}
use Rattle.std.proofs.lemmas.Result.{IfOk-weaker}
use Rattle.fm_trace.specs.Texts.{IsCause}
use Rattle.fmc.proofs.AnswerLaws.{both_ok}
use Rattle.fmc.proofs.ReplayLaws.{malformed_by_replay}
use Rattle.fmc.proofs.replaying.try_replay.Goals as goal

pub trace_reply-requires : goal.trace_reply-requires
trace_reply-requires c = c.in-Ok.ensures.trace.0

pub returns-in-Ok-clause-reply : goal.returns-in-Ok-clause-reply
returns-in-Ok-clause-reply c = IfOk-weaker c.trace_reply.result _ _ (λ r h. h c.args.bytes.now c.requires c.in-Ok.ensures.trace) c.trace_reply.ensures.reply

pub returns-in-Err-Malformed-clause-reply : goal.returns-in-Err-Malformed-clause-reply
returns-in-Err-Malformed-clause-reply c =
    let line = c.in-Err-Malformed.line in
    let malformed = subst (IsCause c.args.bytes.now) c.in-Err-Malformed.field-0-is c.in-Err-Malformed.ensures.malformed in
    both_ok c.malformed_reply.result _ _ _ (λ r e u. malformed_by_replay c.args.vars c.args.bytes.now line.0 r c.requires malformed e u) c.malformed_reply.ensures.exit c.malformed_reply.ensures.text
