use Rattle.fm_run_law.proofs.OneList.{front_of, its_steps, one_list}
use Rattle.fm_run_law.proofs.entries_have_one_list.Goals as goal

pub returns : goal.returns
returns c = record { one = one_list; front = front_of; steps = its_steps }
