use Rattle.fmc.proofs.SaidLaws.{excludes_deadlock, excludes_replayed}
use Rattle.fmc.proofs.top.flow_excludes_deadlock.Goals as goal

pub returns-clause-runs : goal.returns-clause-runs
returns-clause-runs c = λ source before starts says. excludes_deadlock source before starts (c.one_program.ensures.program source) says

pub returns-clause-replays : goal.returns-clause-replays
returns-clause-replays c = λ source before starts says. excludes_replayed source before starts (c.one_program.ensures.program source) says
