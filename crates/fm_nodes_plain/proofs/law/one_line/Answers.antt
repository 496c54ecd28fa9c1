use Rattle.fm_nodes_plain.proofs.Verdicts.{one_verdict}
use Rattle.fm_nodes_plain.proofs.law.one_line.Goals as goal

pub returns : goal.returns
returns c = one_verdict
