use Rattle.std.proofs.Common.{◌≡◌, ℕ, ◌+◌, Some, length, [], ◌∷◌, sym, ap, subst, ◌∙◌, arith, length-append}
use Rattle.std.specs.Prelude.{slice_get}
use Rattle.std.specs.FinMap.{get}
use Rattle.fm_net.specs.Machine.{Place, child}
use Rattle.fm_nodes_procs.specs.Children.{AreNumbered, is_over}
use Rattle.fm_nodes_procs.specs.Processes.{order_of, procs_of}
use Rattle.fm_nodes_procs.proofs.Family.{all_over, numbered_more, one_not_over}
use Rattle.fm_nodes_procs.proofs.children.ended_children.Goals as goal
use native.Mathlib.Decide.{ℕ_discrete}

pub children-preserved : goal.children-preserved
children-preserved g c =
    let r = c.args.runner.now in
    let m = procs_of (g.R.Runner.seen r) c.args.processes.now in
    let he = (g.R.Runner.language r).has_ended in
    let order = order_of c.args.processes.now in
    let p = c.args.path.now in
    let b = c.args.block in
    let i = c.children.place in
    let ns = c.children.numbers.items in
    let n = c.in-Some.number in
    let count : length ns ≡ i = c.children.invariant.count in
    let at : slice_get order n ≡ Some (child p b (length ns + 1)) = c.in-Some.ensures.there ∙ ap Some c.in_ok-child.ensures ∙ ap (λ (j : ℕ). Some (child p b (j + 1))) (sym count) in
    record {
      count = ap length c.in_ok-push-in-Some.ensures.items ∙ omega (arith, length-append ns (n ∷ []), count);
      numbers = subst (λ ms. AreNumbered order p b 1 ms) (sym c.in_ok-push-in-Some.ensures.items) (numbered_more order p b 1 ns n c.children.invariant.numbers at);
      over = λ k below. elim (ℕ_discrete k i) [
        | yes same ↦ ap (λ (j : ℕ). is_over he (get m (child p b (j + 1)))) same ∙ ap (λ (q : Place). is_over he (get m q)) (sym c.in_ok-child.ensures) ∙ c.in-Some.ensures.over
        | no off ↦ c.children.invariant.over k (omega (arith, below))
      ];
    }

pub returns-in-None-clause-none : goal.returns-in-None-clause-none
returns-in-None-clause-none g c =
    let r = c.args.runner.now in
    let m = procs_of (g.R.Runner.seen r) c.args.processes.now in
    let he = (g.R.Runner.language r).has_ended in
    one_not_over he m c.args.path.now c.args.block 1 c.args.count c.children.place (omega arith) (ap (λ (q : Place). is_over he (get m q)) (sym c.in_ok-child.ensures) ∙ c.in-None.ensures.none)

pub returns-clause-count : goal.returns-clause-count
returns-clause-count g c = let whole : c.children.place ≡ c.args.count = omega arith in c.children.invariant.count ∙ whole

pub returns-clause-numbers : goal.returns-clause-numbers
returns-clause-numbers g c = c.children.invariant.numbers

pub returns-clause-all : goal.returns-clause-all
returns-clause-all g c =
    let r = c.args.runner.now in
    let whole : c.children.place ≡ c.args.count = omega arith in
    all_over (g.R.Runner.language r).has_ended (procs_of (g.R.Runner.seen r) c.args.processes.now) c.args.path.now c.args.block 1 c.args.count (λ k below. c.children.invariant.over k (omega (arith, below, whole)))
