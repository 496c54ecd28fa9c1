use Rattle.std.proofs.Common.{Some, None, sym}
use Rattle.fm_nodes_procs.specs.Processes.{order_of}
use Rattle.fm_nodes_procs.proofs.Kept.{low}
use Rattle.fm_nodes_procs.proofs.Procs.{there}
use Rattle.fm_plain_frame.specs.Frames.{proc_of}
use Rattle.fm_nodes.proofs.outcome.process_at.Goals as goal

pub get-requires : goal.get-requires
get-requires c = low (order_of c.args.processes.now) c.in-Some.number c.args.path.now c.in-Some.ensures.there

pub returns-in-Some : goal.returns-in-Some
returns-in-Some c = λ p. sym (there (proc_of p) c.args.processes.now c.args.path.now (Some c.get.result.now) (sym (c.get.ensures c.args.path.now c.in-Some.ensures.there)))

pub returns-in-None : goal.returns-in-None
returns-in-None c = λ p. sym (there (proc_of p) c.args.processes.now c.args.path.now None (sym c.in-None.ensures.none))
