use Rattle.std.proofs.lemmas.Result.{IfOk-weaker}
use Rattle.fm_nodes.proofs.outcome.add_process.Goals as goal

pub returns-clause-faults : goal.returns-clause-faults
returns-clause-faults c = IfOk-weaker c.push_wait.result _ _ (λ u waits. c.in_ok-push_fault.ensures c.args.program.now) c.push_wait.ensures
