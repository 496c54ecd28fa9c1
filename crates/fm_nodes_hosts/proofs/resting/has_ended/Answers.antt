use Rattle.std.proofs.Common.{◌≡◌, ◌<◌, ℕ, Some, None, length, ap, sym, ◌∙◌, arith}
use Rattle.std.specs.Prelude.{is_some, slice_get}
use Rattle.std.specs.Arc.{arc_value}
use Rattle.std.specs.declared.alloc.Global.{Global}
use Rattle.std.specs.declared.sync.Arc.{Arc}
use Rattle.std.proofs.lemmas.List.{length-map}
use native.Mathlib.Decide.{ℕ_discrete}
use Rattle.fm_base.specs.declared.path.Path.{Path}
use Rattle.fm_net.specs.Language.{language_step}
use Rattle.fm_net.specs.Machine.{Place}
use Rattle.fm_link_law.specs.Hosts.{state_of}
use Rattle.fm_nodes_procs.specs.Processes.{order_of}
use Rattle.fm_finmap.proofs.Rows.{some_same}
use Rattle.fm_nodes_procs.proofs.Kept.{at_number, low}
use Rattle.fm_nodes_procs.proofs.Procs.{nobody}
use Rattle.fm_nodes_hosts.specs.States.{hosts_in}
use Rattle.fm_nodes_hosts.proofs.Holding.{place_read}
use Rattle.fm_nodes_hosts.proofs.Stopping.{final_at, nobody_there, none_of, some_of}
use Rattle.fm_nodes_hosts.proofs.resting.has_ended.Goals as goal

pub can_step-requires-clause-who : goal.can_step-requires-clause-who
can_step-requires-clause-who g c =
    let r = c.args.runner.now in
    let S = g.R.Runner.seen r in
    let L = g.R.Runner.language r in
    let s = c.args.state.now in
    let h = hosts_in S s.processes s.network in
    let x = s.processes in
    let all = c.paths.result.now in
    let who = at_number (order_of x) c.processes.number (omega (arith, c.processes-test.true, c.len-number-end.ensures.count)) in
    let within : c.processes.number < length all = omega (arith, c.processes-test.true, c.len-number-end.ensures.count, ap length c.paths.ensures, length-map all (λ (a : Arc Path Global). arc_value a)) in
    let same : c.deref-path.result.now ≡ who.0 = c.deref-path.ensures ∙ place_read all c.processes.number c.index-paths-number.result who.0 within c.index-paths-number.is (ap (λ qs. slice_get qs c.processes.number) c.paths.ensures ∙ who.1) in
    who.1 ∙ ap (λ (q : Place). Some q) (sym same)

pub processes-preserved : goal.processes-preserved
processes-preserved g c = λ k q below at.
    let r = c.args.runner.now in
    let S = g.R.Runner.seen r in
    let L = g.R.Runner.language r in
    let s = c.args.state.now in
    let h = hosts_in S s.processes s.network in
    let x = s.processes in
    let all = c.paths.result.now in
    let who = at_number (order_of x) c.processes.number (omega (arith, c.processes-test.true, c.len-number-end.ensures.count)) in
    let within : c.processes.number < length all = omega (arith, c.processes-test.true, c.len-number-end.ensures.count, ap length c.paths.ensures, length-map all (λ (a : Arc Path Global). arc_value a)) in
    let same : c.deref-path.result.now ≡ who.0 = c.deref-path.ensures ∙ place_read all c.processes.number c.index-paths-number.result who.0 within c.index-paths-number.is (ap (λ qs. slice_get qs c.processes.number) c.paths.ensures ∙ who.1) in
    elim (ℕ_discrete k c.processes.number) [
      | yes here ↦
          let mine : c.deref-path.result.now ≡ q = some_same _ _ (ap (λ (z : Place). Some z) same ∙ sym who.1 ∙ ap (slice_get (order_of x)) (sym here) ∙ at) in
          none_of _ (sym c.if-branch.false ∙ c.in_ok-can_step.ensures ∙ ap (λ z. is_some (language_step L (state_of h) z)) mine)
      | no off ↦ c.processes.invariant k q (omega (arith, below)) at
    ]

pub returns-then-branch-clause-goes_on : goal.returns-then-branch-clause-goes_on
returns-then-branch-clause-goes_on g c = λ e final.
    let r = c.args.runner.now in
    let S = g.R.Runner.seen r in
    let L = g.R.Runner.language r in
    let s = c.args.state.now in
    let h = hosts_in S s.processes s.network in
    some_of (language_step L (state_of h) c.deref-path.result.now) (sym c.if-branch.true ∙ c.in_ok-can_step.ensures) (final c.deref-path.result.now)

pub returns-clause-ended : goal.returns-clause-ended
returns-clause-ended g c = λ e q.
    let r = c.args.runner.now in
    let S = g.R.Runner.seen r in
    let L = g.R.Runner.language r in
    let s = c.args.state.now in
    let h = hosts_in S s.processes s.network in
    let x = s.processes in
    let order = order_of x in
    let none : (n : ℕ) → slice_get order n ≡ Some q → language_step L (state_of h) q ≡ None = λ n at. c.processes.invariant n q (omega (arith, low order n q at, c.processes-test.false, c.len-number-end.ensures.count)) at in
    final_at (language_step L (state_of h) q) (λ some. nobody_there L h q (nobody S x q (λ n at. some (none n at))))
