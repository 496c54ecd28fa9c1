use Rattle.std.proofs.Common.{sym, ◌∙◌}
use Rattle.fm_nodes_procs.specs.Processes.{order_of}
use Rattle.fm_nodes_procs.proofs.Kept.{low}
use Rattle.fm_nodes.proofs.Waits.{ended_there, nobody_ended}
use Rattle.fm_nodes.proofs.outcome.ended_number.Goals as goal

pub get-requires : goal.get-requires
get-requires c = low (order_of c.args.processes.now) c.in-Some.number c.args.path.now c.in-Some.ensures.there

pub returns-then-has_ended : goal.returns-then-has_ended
returns-then-has_ended c = λ p.
    sym c.if-has_ended.true ∙ c.has_ended.ensures ∙ ended_there p c.args.processes.now c.args.path.now c.get.result.now (sym (c.get.ensures c.args.path.now c.in-Some.ensures.there))

pub returns-else-has_ended : goal.returns-else-has_ended
returns-else-has_ended c = λ p.
    sym c.if-has_ended.false ∙ c.has_ended.ensures ∙ ended_there p c.args.processes.now c.args.path.now c.get.result.now (sym (c.get.ensures c.args.path.now c.in-Some.ensures.there))

pub returns-in-None : goal.returns-in-None
returns-in-None c = λ p. nobody_ended p c.args.processes.now c.args.path.now (sym c.in-None.ensures.none)
