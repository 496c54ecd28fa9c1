use Rattle.fm_compile_law.proofs.Makes.{makes_sense}
use Rattle.fm_compile_law.proofs.image_makes_sense.Goals as goal

pub returns : goal.returns
returns c = makes_sense
