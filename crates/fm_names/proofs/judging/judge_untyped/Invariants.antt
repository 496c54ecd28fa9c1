use Rattle.std.proofs.Common.{◌≡◌, drop}
use Rattle.std.specs.List.{flat_map}
use Rattle.fm_base.specs.Verdict.{least_from}
use Rattle.fm_rules.specs.BrokenNames.{untyped_at}
use Rattle.fm_names.proofs.judging.judge_untyped.Given as goal

abbrev pub invariant-first : goal.invariant-first
invariant-first l =
    least_from l.best (flat_map (untyped_at l.titles l.heading l.sheet) (drop l.occurrence-index l.first))
    ≡ least_from l.fn.best (flat_map (untyped_at l.titles l.heading l.sheet) l.first)
