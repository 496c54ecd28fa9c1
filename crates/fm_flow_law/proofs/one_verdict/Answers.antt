use Rattle.fm_flow_law.proofs.Verdicts.{one_verdict}
use Rattle.fm_flow_law.proofs.one_verdict.Goals as goal

pub returns : goal.returns
returns c = one_verdict
