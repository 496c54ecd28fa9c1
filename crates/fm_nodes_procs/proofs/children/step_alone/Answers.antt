use Rattle.std.proofs.Common.{Some, sym, arith}
use Rattle.std.proofs.lemmas.Result.{IfOk-weaker, on_err_weaker}
use Rattle.fm_nodes_procs.specs.Processes.{order_of}
use Rattle.fm_nodes_procs.proofs.Kept.{at_number, change_kept, read_there}
use Rattle.fm_nodes_procs.proofs.Procs.{puts_one, same_there, there}
use Rattle.fm_nodes_procs.proofs.children.step_alone.Goals as goal

pub returns-clause-steps : goal.returns-clause-steps
returns-clause-steps g c = IfOk-weaker c.step_alone.result _ _ (λ o does d cost e p at.
    let me = c.args.processes.now in
    let S = g.R.Runner.seen c.args.runner.now in
    let x = c.index_mut.result.now in
    let y = c.step_alone.new.process in
    let k = does d cost e in
    record {
      self = S x;
      is = there S me p (Some x) (sym (read_there me.paths.items me.values.items me.rows c.args.number p x at c.index_mut.ensures.value));
      goes = k.0;
      asks = k.1;
      later = S y;
      so = k.2;
      after_is = puts_one S me _ p y (change_kept me.paths.items me.values.items me.rows c.args.number y p at);
    }) c.step_alone.ensures.steps

pub returns-clause-none : goal.returns-clause-none
returns-clause-none g c = IfOk-weaker c.step_alone.result _ _ (λ o same e.
    let me = c.args.processes.now in
    let x = c.index_mut.result.now in
    let y = c.step_alone.new.process in
    let p = at_number (order_of me) c.args.number (omega (arith, c.if-number-len.false, c.len.ensures, me.values.ok.0, me.rows.each)) in
    same_there (g.R.Runner.seen c.args.runner.now) me _ p.0 x y (sym (read_there me.paths.items me.values.items me.rows c.args.number p.0 x p.1 c.index_mut.ensures.value))
    (change_kept me.paths.items me.values.items me.rows c.args.number y p.0 p.1) (same e)) c.step_alone.ensures.none

pub returns-clause-err : goal.returns-clause-err
returns-clause-err g c = on_err_weaker c.step_alone.result (λ same.
    let me = c.args.processes.now in
    let x = c.index_mut.result.now in
    let y = c.step_alone.new.process in
    let p = at_number (order_of me) c.args.number (omega (arith, c.if-number-len.false, c.len.ensures, me.values.ok.0, me.rows.each)) in
    same_there (g.R.Runner.seen c.args.runner.now) me _ p.0 x y (sym (read_there me.paths.items me.values.items me.rows c.args.number p.0 x p.1 c.index_mut.ensures.value))
    (change_kept me.paths.items me.values.items me.rows c.args.number y p.0 p.1) same) c.step_alone.ensures.err
