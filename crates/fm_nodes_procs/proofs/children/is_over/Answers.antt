use Rattle.std.proofs.Common.{◌∙◌, Some, sym}
use Rattle.fm_nodes_procs.proofs.Procs.{over_there}
use Rattle.fm_nodes_procs.proofs.children.is_over.Goals as goal

pub returns : goal.returns
returns g c = λ p at. c.has_ended.ensures ∙ over_there (g.R.Runner.seen c.args.runner.now) (g.R.Runner.language c.args.runner.now).has_ended c.args.processes.now p (Some c.get.result.now) (sym (c.get.ensures p at))
