use Rattle.fm_plain.proofs.Free.{next_running}
use Rattle.fm_plain.proofs.looking.next_of.Goals as goal

pub returns-in-Running : goal.returns-in-Running
returns-in-Running c = next_running c.args.program.now c.args.process.now c.running.result c.in-Running.is c.running.ensures
