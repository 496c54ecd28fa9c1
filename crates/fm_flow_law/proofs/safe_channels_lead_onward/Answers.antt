use Rattle.fm_flow_law.proofs.Edges.{safe_acyclic}
use Rattle.fm_flow_law.proofs.safe_channels_lead_onward.Goals as goal

pub returns : goal.returns
returns c = λ p m u main there safe. safe_acyclic p m u main there safe
