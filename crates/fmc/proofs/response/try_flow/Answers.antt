use Rattle.std.proofs.Common.{◌≡◌}
use Rattle.fm_words.specs.declared.command.Command.TheVariants as command
use Rattle.fmc.specs.declared.answer.Exit.TheVariants.{Done}
use Rattle.fmc.specs.Reply.{IsFlowReply, IsReply}
use Rattle.fmc.proofs.AnswerLaws.{both_ok, flow_says}
use Rattle.fmc.proofs.response.try_flow.Goals as goal

pub returns-in-Ok-clause-reply : goal.returns-in-Ok-clause-reply
returns-in-Ok-clause-reply c =
    let k = c.in-Ok.ensures.program in
    let p = c.in-Ok.program in
    both_ok c.flow_reply.result (λ r. r.ran.exit ≡ Done) (IsFlowReply p) (IsReply command.Flow c.args.bytes.now)
    (λ r exit told. flow_says c.args.bytes.now k.statements p r c.requires k.clean k.read k.checked exit told) c.flow_reply.ensures.exit c.flow_reply.ensures.text
