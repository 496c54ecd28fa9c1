use Rattle.std.proofs.Common.{Some, None, sym}
use Rattle.fm_net_procs.proofs.Maps.{found, there}
use Rattle.fm_net_procs.proofs.entries.Entries.process.Goals as goal

pub returns-in-Some : goal.returns-in-Some
returns-in-Some g c = λ p q at. sym (there (g.P.Proc.seen p) c.args.self.now q (Some c.in-Some.entry.now) (found c.args.self.now c.args.number q (Some c.in-Some.entry.now) at c.in-Some.ensures))

pub returns-in-None : goal.returns-in-None
returns-in-None g c = λ p q at. sym (there (g.P.Proc.seen p) c.args.self.now q None (found c.args.self.now c.args.number q None at c.in-None.ensures))
