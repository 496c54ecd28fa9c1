use Rattle.std.proofs.Common.{◌≡◌, ◌+◌, ◌<◌, ℕ, Some, ap, subst, sym, ◌∙◌, arith, map}
use Rattle.std.specs.Prelude.{option_map}
use Rattle.std.specs.FinMap.{get}
use Rattle.fm_finmap.specs.Changes.{alter, alters}
use Rattle.fm_net.specs.Machine.{child, child_changes, gathered}
use Rattle.fm_net_procs.specs.Readings.{ended_at, order_of, procs_of}
use Rattle.fm_net_procs.proofs.Families.{child_number}
use Rattle.fm_net_procs.proofs.Family.{child_as_before, children_more, lefts_more, one_less}
use Rattle.fm_net_procs.proofs.entries.Entries.release_all.Goals as goal

pub children-preserved : goal.children-preserved
children-preserved g c =
    let n = c.children.place in
    let low : n < c.args.family.count = omega arith in
    let family = c.args.family in
    record {
      order = c.release.ensures.order ∙ c.children.invariant.order;
      processes = λ p q b all.
          let seen = g.P.Proc.seen p in
          let emptied = (g.P.Proc.language p).emptied in
          let at = child_number (order_of c.args.self.now) (order_of c.children.self) c.children.invariant.order family.first q b family.count all n c.in_ok-number.number low c.in_ok-number.ensures in
          c.release.ensures.processes p (child q b (n + 1)) at
          ∙ ap (λ k. alter k (child q b (n + 1)) (option_map emptied)) (c.children.invariant.processes p q b all) ∙ children_more emptied q b n (procs_of seen c.args.self.now);
      left = λ p q b kids all e.
          let seen = g.P.Proc.seen p in
          let l = g.P.Proc.language p in
          let m = procs_of seen c.args.self.now in
          let at = child_number (order_of c.args.self.now) (order_of c.children.self) c.children.invariant.order family.first q b family.count all n c.in_ok-number.number low c.in_ok-number.ensures in
          let this = c.release.ensures.left p (child q b (n + 1)) at
          ∙ ap (λ k. option_map g.P.Proc.left_by (get k (child q b (n + 1)))) (c.children.invariant.processes p q b all) ∙ ap (option_map g.P.Proc.left_by) (child_as_before l.emptied q b n m) in
          lefts_more l.has_ended m q b g.P.Proc.left_by (g.P.Proc.left_of p) n c.children.all.items c.release.result (λ ks. c.children.invariant.left p q b ks all) this kids e ∙ ap (map (g.P.Proc.left_of p)) (sym c.in_ok-push_some.ensures);
      told = λ p own q b kids all e but.
          let seen = g.P.Proc.seen p in
          let l = g.P.Proc.language p in
          let m = procs_of seen c.args.self.now in
          let at = child_number (order_of c.args.self.now) (order_of c.children.self) c.children.invariant.order family.first q b family.count all n c.in_ok-number.number low c.in_ok-number.ensures in
          let less = one_less l.has_ended m q b n kids e in
          c.release.ensures.told p own (child q b (n + 1)) at (ap (ended_at l.has_ended) (ap (λ k. get k (child q b (n + 1))) (c.children.invariant.processes p q b all) ∙ child_as_before l.emptied q b n m) ∙ less.1)
          (c.children.invariant.told p own q b less.0.0 all less.0.1 but);
      families = λ p all. c.release.ensures.families p (c.children.invariant.families p all);
    }

pub returns-clause-processes : goal.returns-clause-processes
returns-clause-processes g c = λ p q b all.
    let seen = g.P.Proc.seen p in
    let whole : c.children.place ≡ c.args.family.count = omega arith in
    subst (λ (n : ℕ). procs_of seen c.children.self ≡ alters (child_changes (g.P.Proc.language p).emptied q b 1 n) (procs_of seen c.args.self.now)) whole (c.children.invariant.processes p q b all)

pub returns-clause-left : goal.returns-clause-left
returns-clause-left g c = λ p q b kids all e.
    let whole : c.children.place ≡ c.args.family.count = omega arith in
    c.children.invariant.left p q b kids all (subst (λ (n : ℕ). gathered (g.P.Proc.language p).has_ended (procs_of (g.P.Proc.seen p) c.args.self.now) q b 1 n ≡ Some kids) (sym whole) e)

pub returns-clause-told : goal.returns-clause-told
returns-clause-told g c = λ p own q b kids all e but.
    let whole : c.children.place ≡ c.args.family.count = omega arith in
    c.children.invariant.told p own q b kids all (subst (λ (n : ℕ). gathered (g.P.Proc.language p).has_ended (procs_of (g.P.Proc.seen p) c.args.self.now) q b 1 n ≡ Some kids) (sym whole) e) but
