use Rattle.std.proofs.Common.{rules}
use Rattle.fm_proc_events.specs.Phases.{proc_of}
use Rattle.fm_procs.proofs.PutEnd.{given_runs}
use Rattle.fm_procs.proofs.putting.put_end.Goals as goal

pub returns-clause-runs : goal.returns-clause-runs
returns-clause-runs c =
    given_runs (proc_of c.args.process.now) c.args.done.now c.requires.running c.requires.own c.put_body.new.held (search rules) c.copy_lines.new.lines (search rules) c.steps.result c.cost.result c.steps.ensures c.cost.ensures
