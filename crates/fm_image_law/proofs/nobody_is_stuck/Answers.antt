use Rattle.fm_image_law.proofs.Reached.{reached_good, reached_moves}
use Rattle.fm_image_law.proofs.nobody_is_stuck.Goals as goal

pub returns-clause-good : goal.returns-clause-good
returns-clause-good c = λ i t. reached_good i t

pub returns-clause-moves : goal.returns-clause-moves
returns-clause-moves c = λ i t. reached_moves i t
