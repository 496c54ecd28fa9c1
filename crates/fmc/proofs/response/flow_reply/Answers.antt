use Rattle.std.proofs.Common.{subst}
use Rattle.fmc.specs.Outcomes.{IsUnplayed}
use Rattle.fmc.specs.Reply.{bytes_of, places_in}
use Rattle.fmc.proofs.response.flow_reply.Goals as goal

pub returns-clause-text : goal.returns-clause-text
returns-clause-text c =
    let r = c.unplayed_reply.result in
    record {
      risk = c.in_ok-risk.risk;
      verdict = c.in_ok-risk.ensures.verdict;
      unplayed = subst (λ t. IsUnplayed r.ran.history.items (places_in r.ran) (bytes_of r.text) t) c.in_ok-text.ensures c.unplayed_reply.ensures.text;
    }
