use Rattle.std.proofs.Common.{Some, sym, ap, ◌∙◌, arith}
use Rattle.std.specs.FinMap.{insert}
use Rattle.std.proofs.lemmas.Result.{IfOk-weaker, on_err_weaker}
use Rattle.fm_finmap.proofs.Rows.{some_same}
use Rattle.fm_nodes_procs.specs.Processes.{order_of, procs_of}
use Rattle.fm_nodes_procs.proofs.Kept.{change_kept, low, read_there}
use Rattle.fm_nodes_procs.proofs.Procs.{puts_one, same_there, there}
use Rattle.fm_nodes_procs.proofs.children.go_on.Goals as goal

pub index_mut-requires : goal.index_mut-requires
index_mut-requires g c =
    let me = c.args.processes.now in
    omega (arith, low (order_of me) c.args.number c.args.path.now c.requires, me.values.ok.0, me.rows.each)

pub returns-clause-goes : goal.returns-clause-goes
returns-clause-goes g c = IfOk-weaker c.go_on.result _ _ (λ gone does x need f is asks alone.
    let me = c.args.processes.now in
    let S = g.R.Runner.seen c.args.runner.now in
    let v = c.index_mut.result.now in
    let y = c.go_on.new.process in
    let here = there S me c.args.path.now (Some v) (sym (read_there me.paths.items me.values.items me.rows c.args.number c.args.path.now v c.requires c.index_mut.ensures.value)) in
    let asked = ap (g.R.Runner.language c.args.runner.now).ask (some_same _ _ (sym here ∙ is)) ∙ asks in
    let k = does need f asked alone in
    record {
      after_is = puts_one S me _ c.args.path.now y (change_kept me.paths.items me.values.items me.rows c.args.number y c.args.path.now c.requires) ∙ ap (insert (procs_of S me) c.args.path.now) k.self_is;
      starts_are = k.starts_are;
      drops_are = k.drops_are;
      cost_is = k.cost_is;
    }) c.go_on.ensures.goes

pub returns-clause-err : goal.returns-clause-err
returns-clause-err g c = on_err_weaker c.go_on.result (λ same.
    let me = c.args.processes.now in
    let v = c.index_mut.result.now in
    let y = c.go_on.new.process in
    same_there (g.R.Runner.seen c.args.runner.now) me _ c.args.path.now v y (sym (read_there me.paths.items me.values.items me.rows c.args.number c.args.path.now v c.requires c.index_mut.ensures.value))
    (change_kept me.paths.items me.values.items me.rows c.args.number y c.args.path.now c.requires) same) c.go_on.ensures.err
