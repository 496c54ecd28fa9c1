use Rattle.std.proofs.Common.{◌≡◌, drop}
use Rattle.fm_base.specs.Verdict.{least_from}
use Rattle.fm_rules.specs.BrokenConstants.{broken_from}
use Rattle.fm_names_constants.proofs.judging.judge_constants.Given as goal

abbrev pub invariant-specs : goal.invariant-specs
invariant-specs l = least_from l.best (broken_from l.known l.types l.at (drop l.at l.specs)) ≡ least_from l.fn.best (broken_from l.known l.types 0 l.specs)
