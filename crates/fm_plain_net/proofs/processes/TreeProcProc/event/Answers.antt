use Rattle.fm_plain_net.proofs.Waited.{meets_next}
use Rattle.fm_plain_net.proofs.processes.TreeProcProc.event.Goals as goal

pub returns-in-Steps-clause-meets : goal.returns-in-Steps-clause-meets
returns-in-Steps-clause-meets c = λ p y. meets_next p y c.args.look.now

pub returns-in-Rests-clause-meets : goal.returns-in-Rests-clause-meets
returns-in-Rests-clause-meets c = λ p y. meets_next p y c.args.look.now

pub returns-in-Meets-clause-meets : goal.returns-in-Meets-clause-meets
returns-in-Meets-clause-meets c = λ p y. meets_next p y c.args.look.now
