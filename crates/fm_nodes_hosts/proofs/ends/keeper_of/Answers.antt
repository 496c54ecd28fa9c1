use Rattle.std.proofs.Common.{◌-◌, ◌<◌, Some, true, false, length, take, ap, sym, arith, ◌∙◌}
use Rattle.std.specs.Prelude.{slice_get}
use Rattle.std.specs.Arc.{arc_value}
use Rattle.std.specs.declared.alloc.Global.{Global}
use Rattle.std.specs.declared.sync.Arc.{Arc}
use Rattle.std.proofs.lemmas.List.{length-map}
use Rattle.std.proofs.lemmas.Result.{IfOk-weaker}
use Rattle.fm_base.specs.declared.path.Path.{Path}
use Rattle.fm_net.specs.Machine.{Place}
use Rattle.fm_nodes_procs.specs.Processes.{procs_of}
use Rattle.fm_nodes_procs.proofs.Procs.{there}
use Rattle.fm_nodes_hosts.proofs.Holding.{kept_by, place_read}
use Rattle.fm_nodes_hosts.proofs.ends.keeper_of.Goals as goal

pub returns-then-has_ended : goal.returns-then-has_ended
returns-then-has_ended g c = IfOk-weaker c.starter.result _ _ (λ k is q at.
    let r = c.args.runner.now in
    let S = g.R.Runner.seen r in
    let x = c.args.processes.now in
    let all = c.paths.result.now in
    let low : c.args.number < length all = omega (arith, c.requires, ap length c.paths.ensures, length-map all (λ (a : Arc Path Global). arc_value a)) in
    let same = c.deref-path.ensures ∙ place_read all c.args.number c.index-paths-number.result q low c.index-paths-number.is (ap (λ qs. slice_get qs c.args.number) c.paths.ensures ∙ at) in
    is ∙ ap (λ (p : Place). take (length p - 1) p) same
    ∙ sym (kept_by (g.R.Runner.language r) (procs_of S x) q (S c.get.result.now) (there S x q (Some c.get.result.now) (sym (c.get.ensures q at))) c.has_ended.result true c.has_ended.ensures c.if-has_ended.true)) c.starter.ensures

pub returns-else-has_ended : goal.returns-else-has_ended
returns-else-has_ended g c = IfOk-weaker c.copy.result _ _ (λ k is q at.
    let r = c.args.runner.now in
    let S = g.R.Runner.seen r in
    let x = c.args.processes.now in
    let all = c.paths.result.now in
    let low : c.args.number < length all = omega (arith, c.requires, ap length c.paths.ensures, length-map all (λ (a : Arc Path Global). arc_value a)) in
    let same = c.deref-path.ensures ∙ place_read all c.args.number c.index-paths-number.result q low c.index-paths-number.is (ap (λ qs. slice_get qs c.args.number) c.paths.ensures ∙ at) in
    is ∙ same
    ∙ sym (kept_by (g.R.Runner.language r) (procs_of S x) q (S c.get.result.now) (there S x q (Some c.get.result.now) (sym (c.get.ensures q at))) c.has_ended.result false c.has_ended.ensures c.if-has_ended.false)) c.copy.ensures
