use Rattle.std.proofs.Common.{ℕ, ◌<◌, length, ap, refl, subst}
use Rattle.std.specs.Prelude.{Some, Err, IfSome}
use Rattle.fmc.proofs.SourceLaws.{no_memory_says, reply_to_any, reply_to_read, reply_to_fault, reply_to_long}
use Rattle.fmc.proofs.top.respond_to.Goals as goal

pub returns-in-Ok-clause-reply : goal.returns-in-Ok-clause-reply
returns-in-Ok-clause-reply g c =
    reply_to_read c.args.command (g.S.Source.left c.args.source.now) c.deref.result.now c.in-Ok.bytes.items c.reply.result c.requires.reading c.deref.ensures.value c.in-Ok.ensures.whole c.reply.ensures.reply

pub returns-in-Err-Fault-clause-reply : goal.returns-in-Err-Fault-clause-reply
returns-in-Err-Fault-clause-reply g c =
    reply_to_fault c.args.command (g.S.Source.left c.args.source.now) c.unplayed_reply.result c.requires.reading c.unplayed_reply.ensures.exit c.unplayed_reply.ensures.text

pub returns-in-Err-TooLong-clause-reply : goal.returns-in-Err-TooLong-clause-reply
returns-in-Err-TooLong-clause-reply g c =
    let r = c.unplayed_reply-in-Err-TooLong in
    reply_to_long c.args.command r.result c.requires.reading r.ensures.exit r.ensures.text (g.S.Source.left c.args.source.now)
    (subst (λ (n : ℕ). IfSome (g.S.Source.left c.args.source.now) (λ l. n < length l)) c.limit_of.ensures (c.in-Err-TooLong.ensures.too_long (ap Err c.in-Err-TooLong.field-0-is)))

pub returns-in-Err-NoMemory-clause-reply : goal.returns-in-Err-NoMemory-clause-reply
returns-in-Err-NoMemory-clause-reply g c =
    reply_to_any (Some c.args.command) (g.S.Source.left c.args.source.now) c.no_memory.result
    (λ b. no_memory_says (Some c.args.command) b _ _ _ _ refl c.no_memory.ensures.exit c.no_memory.ensures.text)
