use Rattle.fm_procs.proofs.Table.{meets_next}
use Rattle.fm_procs.proofs.process.CodeProcessProc.event.Goals as goal

pub returns-in-Goes-clause-meets : goal.returns-in-Goes-clause-meets
returns-in-Goes-clause-meets c = λ p y. meets_next y c.args.look.now

pub returns-in-Asks-clause-meets : goal.returns-in-Asks-clause-meets
returns-in-Asks-clause-meets c = λ p y. meets_next y c.args.look.now

pub returns-in-Stuck-clause-meets : goal.returns-in-Stuck-clause-meets
returns-in-Stuck-clause-meets c = λ p y. meets_next y c.args.look.now
