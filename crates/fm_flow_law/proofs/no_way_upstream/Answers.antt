use Rattle.fm_flow_law.proofs.Upstream.{nowhere}
use Rattle.fm_flow_law.proofs.no_way_upstream.Goals as goal

pub returns : goal.returns
returns c = λ g acyclic before h. nowhere g acyclic (λ b. Unit {0}) (λ b p. (before b, (h b).0, (h b).1, tt)) 0 tt
