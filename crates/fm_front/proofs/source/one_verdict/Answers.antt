use Rattle.fm_front.proofs.Uniques as laws
use Rattle.fm_front.proofs.source.one_verdict.Goals as goal

pub returns : goal.returns
returns c = laws.one_verdict
