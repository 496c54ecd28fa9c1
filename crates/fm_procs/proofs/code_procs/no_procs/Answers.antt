use Rattle.fm_procs.proofs.code_procs.no_procs.Goals as goal

pub returns-clause-processes : goal.returns-clause-processes
returns-clause-processes c = c.new-2.ensures.processes tt

pub returns-clause-kept : goal.returns-clause-kept
returns-clause-kept c = record { told = c.new-2.ensures.told tt; families = c.new-2.ensures.families tt }
