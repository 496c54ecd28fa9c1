use Rattle.std.proofs.Common.{sym, ◌∙◌}
use Rattle.fm_plain_frame.specs.Frames.{proc_of}
use Rattle.fm_plain.proofs.OwnSteps.{not_own}
use Rattle.fm_plain.proofs.advancing.is_own.Goals as goal

pub returns : goal.returns
returns c = sym (not_own c.args.program.now (proc_of c.args.program.now c.args.process.now) (sym c.is_running.ensures ∙ c.if-is_running.false))
