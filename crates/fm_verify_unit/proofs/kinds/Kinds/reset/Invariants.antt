use Rattle.std.proofs.Common.{◌≡◌, ◌≤◌, ◌-◌, true}
use Rattle.fm_code_kinds.specs.Effects.{only_results, results_in}
use Rattle.fm_verify_unit.proofs.kinds.Kinds.reset.Given as goal

-- nothing else is there, and not too many
abbrev pub invariant-results : goal.invariant-results
invariant-results l = record { only : only_results l.self ≡ true; few : results_in l.self ≤ l.results }

abbrev pub decreases-results : goal.decreases-results
decreases-results l = l.results - results_in l.self
