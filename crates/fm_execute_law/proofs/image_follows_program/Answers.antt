use Rattle.fm_execute_law.proofs.Programs.{follows_program}
use Rattle.fm_execute_law.proofs.image_follows_program.Goals as goal

pub returns : goal.returns
returns c = follows_program
