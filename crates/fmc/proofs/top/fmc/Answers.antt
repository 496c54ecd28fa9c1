use Rattle.fmc.specs.Answer.{Answers, are_reading, command_in}
use Rattle.fmc.specs.Reply.{IsReplyFor, places_in}
use Rattle.fmc.proofs.SourceLaws.{answered, for_each, told_decided, unread_decided}
use Rattle.fmc.proofs.top.fmc.Goals as goal

pub returns-clause-answers : goal.returns-clause-answers
returns-clause-answers g c =
    let o = command_in c.args.words.now in
    let r = c.respond-reply.result in
    for_each (are_reading o) (g.S.Source.left c.args.source.now) (λ b. IsReplyFor o b r)
    (λ b. Answers o b c.finish.result.exit c.finish.result.history.items (places_in c.finish.result) _ _ _ _ _)
    (λ b says. rw (c.finish.ensures.history, c.finish.ensures.paths)
    (answered o b r _ _ _ _ _ _ says
    (record { read_fault = c.respond-reply.ensures.read_fault; all_read = c.respond-reply.ensures.read }) c.finish.ensures.whole (λ e. (c.finish.ensures.cut e).1)))
    c.respond-reply.ensures.reply

pub returns-clause-decided : goal.returns-clause-decided
returns-clause-decided g c = λ command is no_read no_write.
    let same = (c.finish.ensures.whole (λ e. no_write (c.finish.ensures.cut e).0)).0 in
    told_decided (command_in c.args.words.now) command is (g.S.Source.left c.args.source.now) c.respond-reply.result _ same c.plain_or_not.ensures c.respond-reply.ensures.reply
    (λ e. no_read (c.respond-reply.ensures.read_fault e))

pub returns-clause-unread_decided : goal.returns-clause-unread_decided
returns-clause-unread_decided g c = λ command is unread no_write b.
    let same = (c.finish.ensures.whole (λ e. no_write (c.finish.ensures.cut e).0)).0 in
    unread_decided (command_in c.args.words.now) command is (g.S.Source.left c.args.source.now) c.respond-reply.result _ same c.plain_or_not.ensures c.respond-reply.ensures.reply unread b
