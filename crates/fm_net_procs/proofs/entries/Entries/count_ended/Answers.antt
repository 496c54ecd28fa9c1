use Rattle.std.proofs.lemmas.Result.{IfOk-weaker}
use Rattle.fm_net_procs.proofs.Counting.{counted_all, counted_next, counted_on, counted_so_far, counted_within}
use Rattle.fm_net_procs.proofs.entries.Entries.count_ended.Goals as goal

pub returns : goal.returns
returns g c =
    let x = c.args.self.now in
    let f = c.args.family in
    record {
      within = IfOk-weaker c.count_ended.result _ _ (λ n is. counted_within is) c.count_ended.ensures;
      ended = IfOk-weaker c.count_ended.result _ _ (λ n is p q b all. counted_on (g.P.Proc.seen p) g.P.Proc.over (g.P.Proc.language p).has_ended (g.met.P.Proc.ends p) x f.first f.count c.args.from n is q b all) c.count_ended.ensures;
      not_all = IfOk-weaker c.count_ended.result _ _ (λ n is p q b all. counted_all (g.P.Proc.seen p) g.P.Proc.over (g.P.Proc.language p).has_ended (g.met.P.Proc.ends p) x f.first f.count c.args.from n is q b all) c.count_ended.ensures;
      next = IfOk-weaker c.count_ended.result _ _ (λ n is p q b all. counted_next (g.P.Proc.seen p) g.P.Proc.over (g.P.Proc.language p).has_ended (g.met.P.Proc.ends p) x f.first f.count c.args.from n is q b all) c.count_ended.ensures;
      so_far = IfOk-weaker c.count_ended.result _ _ (λ n is p q b all. counted_so_far (g.P.Proc.seen p) g.P.Proc.over (g.P.Proc.language p).has_ended (g.met.P.Proc.ends p) x f.first f.count c.args.from n is q b all) c.count_ended.ensures;
    }
