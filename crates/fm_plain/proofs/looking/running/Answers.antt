use Rattle.std.proofs.Common.{ap}
use Rattle.std.specs.Option.{option_copied}
use Rattle.fm_plain_frame.specs.Frames.{execution_of}
use Rattle.fm_plain.proofs.Free.{rests_by, seen_by}
use Rattle.fm_plain.proofs.looking.running.Goals as goal

pub returns-in-None : goal.returns-in-None
returns-in-None c = rests_by c.args.program.now (execution_of c.args.program.now c.args.process.now) _ (option_copied c.innermost.result) (ap option_copied c.in-None.is) (c.innermost.ensures c.args.program.now)

pub returns-in-Some : goal.returns-in-Some
returns-in-Some c = seen_by c.args.program.now (execution_of c.args.program.now c.args.process.now) _ (option_copied c.innermost.result) c.in-Some.top.now c.standing.result (ap option_copied c.in-Some.is) (c.innermost.ensures c.args.program.now) c.standing.ensures
