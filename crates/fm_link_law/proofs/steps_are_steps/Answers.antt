use Rattle.fm_link_law.proofs.Stepping.{steps_forth, no_step}
use Rattle.fm_link_law.proofs.steps_are_steps.Goals as goal

pub returns : goal.returns
returns g c = record {
  step = λ language h p sound plain later cost e. let k = steps_forth language h sound p plain later cost e in (k.step, k.stays);
  none = λ language h p sound plain e. no_step language h sound p plain e;
}
