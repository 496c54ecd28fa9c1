use Rattle.fm_proc_events.specs.Phases.{proc_of}
use Rattle.fm_proc_events.proofs.Faults.{fails}
use Rattle.fm_proc_events.proofs.failing.fail.Goals as goal

pub returns : goal.returns
returns c p cs = fails p (proc_of c.args.process.now) cs c.args.line c.args.fault c.requires.look c.requires.running
