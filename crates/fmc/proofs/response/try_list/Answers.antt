use Rattle.std.proofs.Common.{subst}
use Rattle.fmc.specs.Outcomes.{IsUnplayed}
use Rattle.fmc.specs.Reply.{bytes_of, places_in}
use Rattle.fmc.proofs.AnswerLaws.{listed_says}
use Rattle.fmc.proofs.response.try_list.Goals as goal

pub returns-in-Ok-clause-reply : goal.returns-in-Ok-clause-reply
returns-in-Ok-clause-reply c =
    let k = c.in-Ok.ensures.text in
    let r = c.unplayed_reply.result in
    listed_says c.args.bytes.now k.statements r c.requires k.clean k.read c.unplayed_reply.ensures.exit
    (subst (λ t. IsUnplayed r.ran.history.items (places_in r.ran) (bytes_of r.text) t) k.listed c.unplayed_reply.ensures.text)
