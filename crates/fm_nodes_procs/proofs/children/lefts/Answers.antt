use Rattle.std.proofs.Common.{length, subst, arith}
use Rattle.std.proofs.lemmas.List.{take_all}
use Rattle.fm_nodes_procs.specs.Asks.{AllLeft}
use Rattle.fm_nodes_procs.specs.Processes.{order_of, procs_of}
use Rattle.fm_nodes_procs.proofs.Family.{gathered_at, gathered_count, left_next, numbered_at}
use Rattle.fm_nodes_procs.proofs.Kept.{low, read_number}
use Rattle.fm_nodes_procs.proofs.children.lefts.Goals as goal

pub left-requires : goal.left-requires
left-requires g c =
    let k = c.children.number-index in
    low _ _ _ (numbered_at (order_of c.args.processes.now) c.args.path.now c.args.block 1 c.args.numbers.now c.requires k _ (read_number c.args.numbers.now k c.children-test.true))

pub children-preserved : goal.children-preserved
children-preserved g c = λ kids e.
    let r = c.args.runner.now in
    let m = procs_of (g.R.Runner.seen r) c.args.processes.now in
    let k = c.children.number-index in
    let at = numbered_at (order_of c.args.processes.now) c.args.path.now c.args.block 1 c.args.numbers.now c.requires k _ (read_number c.args.numbers.now k c.children-test.true) in
    let who = gathered_at (g.R.Runner.language r).has_ended m c.args.path.now c.args.block 1 (length c.args.numbers.now) kids e k c.children-test.true in
    left_next (g.R.Runner.IsLeft r) kids k who.0 c.children.all.items c.push.new.self.items c.in_ok-own.own who.1 (c.children.invariant kids e) (c.in_ok-own.ensures _ who.0 at who.2) c.in_ok-push.ensures.items

pub returns : goal.returns
returns g c = λ kids e.
    let r = c.args.runner.now in
    let m = procs_of (g.R.Runner.seen r) c.args.processes.now in
    let count = gathered_count (g.R.Runner.language r).has_ended m c.args.path.now c.args.block 1 (length c.args.numbers.now) kids e in
    subst (λ ks. AllLeft (g.R.Runner.IsLeft r) ks c.children.all.items) (take_all c.children.number-index kids (omega (arith, count, c.children-test.false))) (c.children.invariant kids e)
