use Rattle.std.proofs.Common.{ap, ◌∙◌}
use Rattle.std.proofs.lemmas.Result.{on_ok_weaker, IfOk-weaker}
use Rattle.std.specs.FinMap.{get, insert}
use Rattle.fm_finmap.proofs.name_map.NameMap.insert.Goals as goal

pub returns-clause-ok : goal.returns-clause-ok
returns-clause-ok g c = on_ok_weaker c.insert.result (λ e. e ∙ ap (λ m. insert m c.args.name c.args.value) c.self.view_is) c.insert.ensures.ok

pub returns-clause-before : goal.returns-clause-before
returns-clause-before g c = IfOk-weaker c.insert.result _ _ (λ v e. e ∙ ap (λ m. get m c.args.name) c.self.view_is) c.insert.ensures.before
