use Rattle.fm_plain.proofs.Free.{seen_here}
use Rattle.fm_plain.proofs.looking.standing.Goals as goal

pub returns-in-Some : goal.returns-in-Some
returns-in-Some c = seen_here c.args.program.now c.args.top.now c.args.process.now.machine c.args.process.now.node c.in-Some.here c.entry.result c.in-Some.ensures c.entry.ensures
