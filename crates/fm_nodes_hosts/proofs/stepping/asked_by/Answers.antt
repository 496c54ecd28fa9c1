use Rattle.std.proofs.Common.{Some, ap, subst, sym, ◌∙◌}
use Rattle.std.proofs.lemmas.Result.{IfOk-weaker}
use Rattle.fm_finmap.proofs.Rows.{some_same}
use Rattle.fm_net.specs.Owned.{main_alone}
use Rattle.fm_nodes_procs.specs.Asks.{StartsSo, need_asked}
use Rattle.fm_nodes_procs.specs.Processes.{order_of}
use Rattle.fm_nodes_procs.proofs.Kept.{low}
use Rattle.fm_nodes_procs.proofs.Procs.{there}
use Rattle.fm_nodes_hosts.specs.States.{run_of}
use Rattle.fm_nodes_hosts.proofs.Steps.{of_words}
use Rattle.fm_nodes_hosts.proofs.stepping.asked_by.Goals as goal

pub get-requires : goal.get-requires
get-requires g c = low (order_of c.args.state.now.processes) c.args.number c.args.path.now c.requires.who

pub asked-requires : goal.asked-requires
asked-requires g c = record {
  words = λ need f asks.
      let r = c.args.runner.now in
      let S = g.R.Runner.seen r in
      let v = c.get.result.now in
      of_words (g.R.Runner.language r) (main_alone (g.R.Runner.main r)) (g.met.R.Runner.is_lawful r) (g.met.R.Runner.main_owns r) (g.met.R.Runner.asks_for_words r) (run_of S c.args.state.now) c.requires.sound
      c.args.path.now (S v) (there S c.args.state.now.processes c.args.path.now (Some v) (sym (c.get.ensures c.args.path.now c.requires.who))) need f asks;
}

pub returns-clause-need : goal.returns-clause-need
returns-clause-need g c = IfOk-weaker c.asked.result _ _ (λ q is x at.
    let r = c.args.runner.now in
    let S = g.R.Runner.seen r in
    let v = c.get.result.now in
    let same = some_same _ _ (sym at ∙ there S c.args.state.now.processes c.args.path.now (Some v) (sym (c.get.ensures c.args.path.now c.requires.who))) in
    ap (λ y. need_asked ((g.R.Runner.language r).ask y)) same ∙ sym is) c.asked.ensures.need

pub returns-clause-starts : goal.returns-clause-starts
returns-clause-starts g c = IfOk-weaker c.asked.result _ _ (λ q is x at.
    let r = c.args.runner.now in
    let S = g.R.Runner.seen r in
    let v = c.get.result.now in
    let same = some_same _ _ (sym at ∙ there S c.args.state.now.processes c.args.path.now (Some v) (sym (c.get.ensures c.args.path.now c.requires.who))) in
    subst (λ y. StartsSo ((g.R.Runner.language r).ask y) q.block q.starts) (sym same) is) c.asked.ensures.starts
