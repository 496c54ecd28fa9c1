use Rattle.std.proofs.Common.{subst}
use Rattle.fmc.specs.Outcomes.{IsUnplayed}
use Rattle.fmc.specs.Reply.{bytes_of, places_in}
use Rattle.fmc.proofs.response.object_reply.Goals as goal

pub returns-clause-text : goal.returns-clause-text
returns-clause-text c =
    let r = c.unplayed_reply.result in
    record {
      fits = c.in_ok-object.ensures.fits;
      unplayed = subst (λ t. IsUnplayed r.ran.history.items (places_in r.ran) (bytes_of r.text) t) c.in_ok-object.ensures.text c.unplayed_reply.ensures.text;
    }
