use Rattle.std.proofs.Common.{sym, ◌∙◌, slice_get}
use Rattle.fm_nodes_procs.specs.Processes.{order_of}
use Rattle.fm_nodes_procs.proofs.Kept.{the_place}
use Rattle.fm_nodes_procs.proofs.processes.Processes.seek.Goals as goal

pub returns-then-is_at-clause-there : goal.returns-then-is_at-clause-there
returns-then-is_at-clause-there g c = the_place c.args.path.now (slice_get (order_of c.args.self.now) c.likely_number-likely.result) (sym c.is_at.ensures ∙ c.if-is_at.true)
