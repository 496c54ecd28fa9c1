use Rattle.std.proofs.Common.{◌≡◌, Bool, Some, cond, ap, sym, arith, ◌∙◌}
use Rattle.std.specs.FinMap.{get}
use Rattle.fm_nodes_hosts.specs.Ends.{has_port, holder, keeper}
use Rattle.fm_nodes_hosts.proofs.Holding.{holder_end, holder_more}
use Rattle.fm_nodes_procs.specs.Processes.{order_of, procs_of}
use Rattle.fm_nodes_procs.proofs.Kept.{at_number}
use Rattle.fm_nodes_procs.proofs.Procs.{there}
use Rattle.std.proofs.Common.{drop, ◌+◌}
use Rattle.fm_nodes_hosts.proofs.ends.first_with.Goals as goal

pub returns-then-has-clause-is : goal.returns-then-has-clause-is
returns-then-has-clause-is g c = λ q at.
    let r = c.args.runner.now in
    let S = g.R.Runner.seen r in
    let x = c.args.processes.now in
    let m = procs_of S x in
    let L = g.R.Runner.language r in
    let z = c.args.port.now in
    let n = c.processes.number in
    let has : has_port L z (get m q) ≡ _ = ap (has_port L z) (there S x q (Some c.get.result.now) (sym (c.get.ensures q at))) ∙ sym c.has.ensures ∙ c.if-has.true in
    c.processes.invariant ∙ holder_more L m z (order_of x) n q at ∙ ap (λ (b : Bool). cond b (Some (keeper L q (get m q))) (holder L m (drop (n + 1) (order_of x)) z)) has

pub processes-preserved : goal.processes-preserved
processes-preserved g c =
    let r = c.args.runner.now in
    let S = g.R.Runner.seen r in
    let x = c.args.processes.now in
    let m = procs_of S x in
    let L = g.R.Runner.language r in
    let z = c.args.port.now in
    let n = c.processes.number in
    let who = at_number (order_of x) n (omega (arith, c.len-number-end.ensures.count)) in
    let q = who.0 in
    let has : has_port L z (get m q) ≡ _ = ap (has_port L z) (there S x q (Some c.get.result.now) (sym (c.get.ensures q who.1))) ∙ sym c.has.ensures ∙ c.if-has.false in
    c.processes.invariant ∙ holder_more L m z (order_of x) n q who.1 ∙ ap (λ (b : Bool). cond b (Some (keeper L q (get m q))) (holder L m (drop (n + 1) (order_of x)) z)) has

pub returns-clause-none : goal.returns-clause-none
returns-clause-none g c =
    let r = c.args.runner.now in
    let S = g.R.Runner.seen r in
    let x = c.args.processes.now in
    c.processes.invariant ∙ holder_end (g.R.Runner.language r) (procs_of S x) c.args.port.now (order_of x) c.processes.number (omega (arith, c.processes-test.false, c.len-number-end.ensures.count))
