use Rattle.fm_run.proofs.Awaiting.{ended_there}
use Rattle.fm_run.proofs.Programs.{ended_is}
use Rattle.fm_plain_net.specs.Readings.{procs_of}
use Rattle.std.specs.FinMap.{get}
use Rattle.std.proofs.Common.{◌∙◌}
use Rattle.fm_plain_net.proofs.net.TreeNetNet.has_ended.Goals as goal

pub returns : goal.returns
returns c = λ p q sound at. c.has_ended.ensures p q at ∙ ended_there (get (procs_of p c.args.self.now.trees.entries) q) ∙ ended_is p (get (procs_of p c.args.self.now.trees.entries) q)
