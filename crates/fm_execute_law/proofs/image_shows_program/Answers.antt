use Rattle.fm_execute_law.proofs.Variables.{shows_program}
use Rattle.fm_execute_law.proofs.image_shows_program.Goals as goal

pub returns : goal.returns
returns c = shows_program
