use Rattle.fm_net_procs.specs.Awaited.{child_ended}
use Rattle.fm_net_procs.specs.Readings.{procs_of}
use Rattle.fm_net_procs.proofs.Awaiting.{left_so, told_so}
use Rattle.fm_net_procs.proofs.entries.Entries.awaited.Goals as goal

pub returns : goal.returns
returns g c =
    let x = c.args.self.now in
    let f = c.family-family.result in
    let n = c.in_ok-ended.ended in
    record {
      told = λ p q y families at is known.
          let children = c.family-family.ensures.first p q y at is families in
          told_so (child_ended (g.P.Proc.language p).has_ended (procs_of (g.P.Proc.seen p) x) q) (g.P.Proc.awaits y) f.count n (c.family-family.ensures.count p q y at is) (λ b joins. c.in_ok-ended.ensures.next p q b (children b f.count joins)) c.args.before
          (λ b joins. c.in_ok-ended.ensures.so_far p q b (children b f.count joins)) known;
      left = λ p q y families at is waits.
          let children = c.family-family.ensures.first p q y at is families in
          left_so (child_ended (g.P.Proc.language p).has_ended (procs_of (g.P.Proc.seen p) x) q) (g.P.Proc.awaits y) f.count n (c.family-family.ensures.count p q y at is) (λ b joins. c.in_ok-ended.ensures.next p q b (children b f.count joins)) waits;
    }
