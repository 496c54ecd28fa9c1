use Rattle.std.proofs.Common.{◌≡◌, drop}
use Rattle.std.specs.List.{flat_map}
use Rattle.fm_base.specs.Verdict.{least_from}
use Rattle.fm_rules.specs.Declarations.{processors_line, repeated_processors}
use Rattle.fm_names_declared.proofs.Noted.{skip_seen}
use Rattle.fm_names_declared.proofs.declarations.judge_processors.Given as goal

abbrev pub invariant-specs : goal.invariant-specs
invariant-specs l =
    least_from l.best (skip_seen l.seen (flat_map processors_line (drop l.placed-index l.specs))) ≡ least_from l.fn.best (repeated_processors l.specs)
