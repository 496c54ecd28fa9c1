use Rattle.std.proofs.Common.{Some, subst, sym, ◌∙◌}
use Rattle.std.proofs.lemmas.Result.{IfOk-weaker}
use Rattle.fm_finmap.proofs.Rows.{some_same}
use Rattle.fm_nodes_procs.proofs.Procs.{there}
use Rattle.fm_nodes_procs.proofs.children.left.Goals as goal

pub returns : goal.returns
returns g c = IfOk-weaker c.left.result _ _ (λ l is p x at who.
    subst (λ z. g.R.Runner.IsLeft c.args.runner.now z l) (some_same _ _ (sym (there (g.R.Runner.seen c.args.runner.now) c.args.processes.now p (Some c.get.result.now) (sym (c.get.ensures p at))) ∙ who)) is) c.left.ensures
