use Rattle.fm_compile_law.proofs.Codes.{same_code}
use Rattle.fm_compile_law.proofs.image_keeps_code.Goals as goal

pub returns : goal.returns
returns c = same_code
