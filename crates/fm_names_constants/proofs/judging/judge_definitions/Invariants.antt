use Rattle.std.proofs.Common.{◌≡◌, drop}
use Rattle.fm_base.specs.Verdict.{least_from}
use Rattle.fm_rules.specs.BrokenConstants.{broken_definitions}
use Rattle.fm_names_constants.proofs.judging.judge_definitions.Given as goal

abbrev pub invariant-definitions : goal.invariant-definitions
invariant-definitions l =
    least_from l.best (broken_definitions l.known l.types l.at l.line.0 l.item (drop l.item l.definitions))
    ≡ least_from l.fn.best (broken_definitions l.known l.types l.at l.line.0 0 l.definitions)
