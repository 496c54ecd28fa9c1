use Rattle.std.proofs.Common.{[], sym, ap, ◌∙◌}
use Rattle.fm_words.specs.Fails.{is_usage}
use Rattle.fmc.specs.Answer.{command_in}
use Rattle.fmc.proofs.SourceLaws.{no_memory_says, usage_says, reply_to_any, unread_words}
use Rattle.fmc.proofs.top.respond.Goals as goal

pub returns-in-Err-NoMemory-clause-reply : goal.returns-in-Err-NoMemory-clause-reply
returns-in-Err-NoMemory-clause-reply g c =
    let o = command_in c.args.words.now in
    reply_to_any o (g.S.Source.left c.args.source.now) c.no_memory.result
    (λ b. no_memory_says o b _ _ _ _ (sym c.in-Err-NoMemory.ensures ∙ ap is_usage c.in-Err-NoMemory.field-0-is) c.no_memory.ensures.exit c.no_memory.ensures.text)

pub returns-else-is_reading-clause-reply : goal.returns-else-is_reading-clause-reply
returns-else-is_reading-clause-reply g c =
    let o = command_in c.args.words.now in
    reply_to_any o (g.S.Source.left c.args.source.now) c.reply.result
    (λ b. unread_words o c.in-Ok.command [] b c.reply.result c.in-Ok.ensures (sym c.if-is_reading.ensures) c.reply.ensures.reply)

pub returns-in-Err-Usage-clause-reply : goal.returns-in-Err-Usage-clause-reply
returns-in-Err-Usage-clause-reply g c =
    let o = command_in c.args.words.now in
    reply_to_any o (g.S.Source.left c.args.source.now) c.unplayed_reply.result
    (λ b. usage_says o b _ _ _ _ (sym c.in-Err-Usage.ensures ∙ ap is_usage c.in-Err-Usage.field-0-is) c.unplayed_reply.ensures.exit c.unplayed_reply.ensures.text)
