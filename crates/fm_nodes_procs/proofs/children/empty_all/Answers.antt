use Rattle.std.proofs.Common.{◌≡◌, ◌+◌, ℕ, suc, List, length, [], ◌∷◌, sym, ap, subst, ◌∙◌, arith, length-append}
use Rattle.std.specs.Prelude.{slice_get}
use Rattle.fm_finmap.specs.Changes.{alters}
use Rattle.fm_net.specs.Machine.{Place, child, child_changes}
use Rattle.fm_nodes_procs.specs.Children.{AreNumbered}
use Rattle.fm_nodes_procs.specs.Processes.{order_of, procs_of}
use Rattle.fm_nodes_procs.proofs.Family.{last_first, numbered_front}
use Rattle.fm_nodes_procs.proofs.children.empty_all.Goals as goal

pub children-preserved : goal.children-preserved
children-preserved g c =
    let r = c.args.runner.now in
    let em = (g.R.Runner.language r).emptied in
    let rest = c.pop.new.self.items in
    let n = c.in-Some.number in
    let order = order_of c.args.processes.now in
    let m = procs_of (g.R.Runner.seen r) c.children.processes in
    record {
      order = c.empty.ensures.order ∙ c.children.invariant.order;
      room = λ count room. c.empty.ensures.room count (c.children.invariant.room count room);
      procs = λ p b all.
          let inv = c.children.invariant.procs p b all in
          let front = numbered_front order p b 1 rest n (subst (λ ms. AreNumbered order p b 1 ms) c.in-Some.ensures.items inv.0) in
          let long : suc (length rest) ≡ length c.children.numbers.items = sym (ap length c.in-Some.ensures.items ∙ length-append rest (n ∷ []) ∙ omega arith) in (
            front.0,
            ap (alters (child_changes em p b 1 (length rest))) (c.empty.ensures.procs (child p b (length rest + 1)) (ap (λ (qs : List Place). slice_get qs n) c.children.invariant.order ∙ front.1))
                ∙ last_first em p b (length rest) m ∙ ap (λ (k : ℕ). alters (child_changes em p b 1 k) m) long ∙ inv.1,
          );
    }

pub returns-clause-procs : goal.returns-clause-procs
returns-clause-procs g c = λ p b all.
    let r = c.args.runner.now in
    let none : length c.children.numbers.items ≡ 0 = omega (arith, c.in_default.ensures.cases.0, c.children.numbers.ok.0) in
    ap (λ (k : ℕ). alters (child_changes (g.R.Runner.language r).emptied p b 1 k) (procs_of (g.R.Runner.seen r) c.children.processes)) (sym none) ∙ (c.children.invariant.procs p b all).1
