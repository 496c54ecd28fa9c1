use Rattle.fm_mean.proofs.Rests.{does_nothing_so, no_step_along, who_waits_so}
use Rattle.fm_mean.proofs.who_has_no_step.Goals as goal

pub returns : goal.returns
returns c = record { waits = no_step_along; rests = who_waits_so; acts = does_nothing_so }
