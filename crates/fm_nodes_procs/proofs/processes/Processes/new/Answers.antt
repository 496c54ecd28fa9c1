use Rattle.fm_nodes_procs.proofs.Kept.{none_kept, none_there}
use Rattle.fm_nodes_procs.proofs.processes.Processes.new.Goals as goal

pub invariant_of-result-clause-rows : goal.invariant_of-result-clause-rows
invariant_of-result-clause-rows g c = none_kept c.new.result.items c.new-2.result.items c.new.ensures.items c.new-2.ensures.items

pub returns-clause-map : goal.returns-clause-map
returns-clause-map g c = none_there c.new.result.items c.new-2.result.items c.new.ensures.items
