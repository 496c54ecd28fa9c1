use Rattle.fm_sched.proofs.Runs.{leads_nowhere, leads_first, leads_on, leads_further, leads_once}
use Rattle.fm_sched.proofs.where_choices_lead.Goals as goal

pub returns : goal.returns
returns g c = record {
  nowhere = λ step. leads_nowhere step;
  first = λ step. leads_first step;
  on = λ step. leads_on step;
  further = λ step. leads_further step;
  once = λ step. leads_once step;
}
