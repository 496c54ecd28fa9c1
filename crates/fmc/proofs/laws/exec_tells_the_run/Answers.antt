use Rattle.fmc.proofs.ExecLaws.{runs_what_is_compiled, tells_the_run}
use Rattle.fmc.proofs.laws.exec_tells_the_run.Goals as goal

pub returns : goal.returns
returns c = record { runs = runs_what_is_compiled; tells = tells_the_run }
