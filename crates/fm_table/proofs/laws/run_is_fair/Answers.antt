use Rattle.fm_run.specs.Programs.{play_of}
use Rattle.fm_run.proofs.Programs.{law_of}
use Rattle.fm_run_law.proofs.Reached as reached
use Rattle.fm_table.proofs.laws.run_is_fair.Goals as goal

pub returns : goal.returns
returns c = λ program slice turns run r follows. reached.run_is_fair (play_of program) (law_of program) slice turns run r follows
