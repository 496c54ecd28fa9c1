use Rattle.std.proofs.Common.{subst}
use Rattle.fmc.specs.Outcomes.{IsUnplayed}
use Rattle.fmc.specs.Reply.{bytes_of, places_in}
use Rattle.fmc.proofs.AnswerLaws.{checked_says, race_of}
use Rattle.fmc.proofs.response.try_check.Goals as goal

pub returns-in_ok-text-in-Ok-clause-reply : goal.returns-in_ok-text-in-Ok-clause-reply
returns-in_ok-text-in-Ok-clause-reply c =
    let k = c.in-Ok.ensures.program in
    let p = c.in-Ok.program in
    let r = c.unplayed_reply.result in
    checked_says c.args.bytes.now k.statements c.first_race.result r c.requires k.clean k.read
    (race_of k.statements p.units.units p.names.units c.first_race.result k.checked.units_are k.checked.names_are c.first_race.ensures)
    c.unplayed_reply.ensures.exit
    (subst (λ t. IsUnplayed r.ran.history.items (places_in r.ran) (bytes_of r.text) t) c.in_ok-text-in-Ok.ensures c.unplayed_reply.ensures.text)
