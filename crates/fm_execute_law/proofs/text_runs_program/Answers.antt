use Rattle.fm_execute_law.proofs.Programs.{object_executes, text_executes}
use Rattle.fm_execute_law.proofs.text_runs_program.Goals as goal

pub returns-clause-object : goal.returns-clause-object
returns-clause-object c = object_executes

pub returns-clause-compiled : goal.returns-clause-compiled
returns-clause-compiled c = text_executes
