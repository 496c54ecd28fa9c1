use Rattle.fm_code_preserves.proofs.Sample.{sample_stands}
use Rattle.fm_code_preserves.proofs.sample_body_stands.Goals as goal

pub returns : goal.returns
returns c = sample_stands
