use Rattle.std.proofs.Common.{◌≡◌}
use Rattle.fm_words.specs.declared.command.Command.TheVariants as command
use Rattle.fmc.specs.declared.answer.Exit.TheVariants.{Done}
use Rattle.fmc.specs.Reply.{IsObjectReply, IsReply}
use Rattle.fmc.proofs.AnswerLaws.{both_ok, object_says}
use Rattle.fmc.proofs.response.try_compile.Goals as goal

pub returns-in-Ok-clause-reply : goal.returns-in-Ok-clause-reply
returns-in-Ok-clause-reply c =
    let k = c.in-Ok.ensures.program in
    let p = c.in-Ok.program in
    both_ok c.object_reply.result (λ r. r.ran.exit ≡ Done) (IsObjectReply p) (IsReply command.Compile c.args.bytes.now)
    (λ r exit told. object_says c.args.bytes.now k.statements p r c.requires k.clean k.read k.checked exit told) c.object_reply.ensures.exit c.object_reply.ensures.text
