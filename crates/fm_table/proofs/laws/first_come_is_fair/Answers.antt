use Rattle.fm_run.specs.Programs.{play_of}
use Rattle.fm_run.proofs.Programs.{law_of}
use Rattle.fm_run_law.proofs.Fairness.{fair}
use Rattle.fm_table.proofs.laws.first_come_is_fair.Goals as goal

pub returns : goal.returns
returns c = λ program slice history follows. fair (play_of program) (law_of program) slice history follows
