use Rattle.std.proofs.Common.{◌∙◌, append-nil, sym}
use Rattle.fm_net_procs.specs.Readings.{order_of}
use Rattle.fm_net_procs.proofs.processes.Processes.step_join.Goals as goal

pub returns-clause-order : goal.returns-clause-order
returns-clause-order g c = c.in_ok-cost.ensures.order ∙ sym (append-nil (order_of c.args.self.now.entries))
