use Rattle.fm_image_law.proofs.First.{first_good, first_holds}
use Rattle.fm_image_law.proofs.Laid.{code_laid}
use Rattle.fm_image_law.proofs.first_is_good.Goals as goal

pub returns-clause-laid : goal.returns-clause-laid
returns-clause-laid c = λ i t. code_laid i t

pub returns-clause-good : goal.returns-clause-good
returns-clause-good c = λ i t. first_good i t

pub returns-clause-free : goal.returns-clause-free
returns-clause-free c = λ i t. first_holds i t
