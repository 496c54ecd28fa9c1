use Rattle.std.proofs.Common.{◌≡◌, ℕ, Some, None, ap, subst, sym, ◌∙◌}
use Rattle.fm_net_procs.specs.Kept.{HasFamily, count_awaited}
use Rattle.fm_net_procs.specs.Readings.{order_of}
use Rattle.fm_net_procs.proofs.Maps.{found, there}
use Rattle.fm_net_procs.proofs.entries.Entries.family.Goals as goal

pub returns-in-Some : goal.returns-in-Some
returns-in-Some g c =
    let x = c.args.self.now in
    let entry = c.in-Some.entry.now in
    record {
      count = λ p q y at is.
          let same : g.P.Proc.seen p entry.process ≡ y = cc (sym (there (g.P.Proc.seen p) x q (Some entry) (found x c.args.number q (Some entry) at c.in-Some.ensures)) ∙ is) in
          c.family.ensures.count p ∙ ap (λ z. count_awaited (g.P.Proc.awaits z)) same;
      first = λ p q y at is all.
          let here = found x c.args.number q (Some entry) at c.in-Some.ensures in
          let same : g.P.Proc.seen p entry.process ≡ y = cc (sym (there (g.P.Proc.seen p) x q (Some entry) here) ∙ is) in
          subst (λ (n : ℕ). HasFamily (order_of x) q (g.P.Proc.awaits y) n) (sym c.family.ensures.first) (subst (λ z. HasFamily (order_of x) q (g.P.Proc.awaits z) entry.first_child) same (all q entry (sym here)));
    }

pub returns-in-None : goal.returns-in-None
returns-in-None g c = record {
  count = λ p q y at is. absurd (cc (sym (there (g.P.Proc.seen p) c.args.self.now q None (found c.args.self.now c.args.number q None at c.in-None.ensures)) ∙ is));
  first = λ p q y at is all. absurd (cc (sym (there (g.P.Proc.seen p) c.args.self.now q None (found c.args.self.now c.args.number q None at c.in-None.ensures)) ∙ is));
}
