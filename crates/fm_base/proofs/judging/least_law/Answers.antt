use Rattle.fm_base.proofs.Least.{least_verdict}
use Rattle.fm_base.proofs.judging.least_law.Goals as goal

pub returns : goal.returns
returns c = least_verdict
