use Rattle.fm_code_kinds.proofs.SampleLaws.{sample_fits}
use Rattle.fm_code_kinds.proofs.laws.sample_body_fits.Goals as goal

pub returns : goal.returns
returns c = sample_fits
