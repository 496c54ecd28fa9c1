use Rattle.std.proofs.Common.{sym, ap, ◌∙◌}
use Rattle.fm_run.specs.Entries.{lengthened}
use Rattle.fm_run.proofs.Results.{on_err_one, on_ok_one}
use Rattle.fm_run.proofs.history.History.lengthen.Goals as goal

pub returns-clause-ok : goal.returns-clause-ok
returns-clause-ok c = on_ok_one c.lengthen_last.result c.lengthen_last.ensures.ok (λ is. is ∙ ap (lengthened c.args.steps) c.self.view_is)

pub returns-clause-err : goal.returns-clause-err
returns-clause-err c = on_err_one c.lengthen_last.result c.lengthen_last.ensures.err (λ is. is ∙ c.self.view_is)

pub invariant_of-self : goal.invariant_of-self
invariant_of-self c = c.self.invariant ∙ sym c.lengthen_last.ensures.count
