use Rattle.fm_mean.proofs.BackWords.{unit_small}
use Rattle.fm_mean.proofs.StepCosts.{costs_along, paid_along, quiet_costs, short_along}
use Rattle.fm_mean.proofs.calls_are_paid.Goals as goal

pub returns : goal.returns
returns c = record { along = costs_along; owed = paid_along; short = λ p n few. short_along n p few; quiet = quiet_costs; small = unit_small }
