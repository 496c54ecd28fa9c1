use Rattle.std.proofs.Common.{refl}
use Rattle.fm_proc_events.specs.Phases.{proc_of}
use Rattle.fm_procs.proofs.Joinings.{joins_so}
use Rattle.fm_procs.proofs.opening.OpenJoin.close.Goals as goal

pub returns-clause-joins : goal.returns-clause-joins
returns-clause-joins c = λ y children h p.
    joins_so p y (proc_of c.args.process.now) children _ _ c.args.self c.put_words.new.body c.from_open.result _ h
    c.put_words.ensures c.from_open.ensures c.shed.ensures.channels refl
