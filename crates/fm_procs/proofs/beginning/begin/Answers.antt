use Rattle.std.proofs.Common.{rules}
use Rattle.fm_proc_events.specs.Phases.{proc_of}
use Rattle.fm_procs.proofs.Beginnings.{began_so}
use Rattle.fm_procs.proofs.beginning.begin.Goals as goal

pub returns-clause-performs : goal.returns-clause-performs
returns-clause-performs c = λ cs.
    began_so _ (proc_of c.args.process.now) cs c.in-Some.body c.begin_block.new.body _ c.in_ok-after.after _ _ c.begin_block.new.slots _
    c.requires.look c.requires.running c.in-Some.is c.in_ok-kids.ensures.kids c.in_ok-kids.ensures.children c.in_ok-kids.ensures.body (search rules) c.in_ok-kids.ensures.cost
