use Rattle.std.proofs.Common.{◌≡◌, drop}
use Rattle.fm_base.specs.Verdict.{least_from}
use Rattle.fm_rules.specs.BrokenConstants.{broken_decls}
use Rattle.fm_names_constants.proofs.judging.judge_decls.Given as goal

abbrev pub invariant-decls : goal.invariant-decls
invariant-decls l = least_from l.best (broken_decls l.known l.at l.line.0 (drop l.decl-index l.decls)) ≡ least_from l.fn.best (broken_decls l.known l.at l.line.0 l.decls)
