use Rattle.std.proofs.Common.{refl, arith}
use Rattle.fm_net_procs.specs.Readings.{procs_of}
use Rattle.fm_net_procs.proofs.Family.{all_counted}
use Rattle.fm_net_procs.proofs.entries.Entries.have_ended.Goals as goal

pub returns : goal.returns
returns g c = λ p q b all.
    all_counted (g.P.Proc.language p).has_ended (procs_of (g.P.Proc.seen p) c.args.self.now) q b c.in_ok-ended.ended c.args.family.count (c.in_ok-ended.ensures.within (omega arith)) (c.in_ok-ended.ensures.ended p q b all refl) (c.in_ok-ended.ensures.not_all p q b all)
