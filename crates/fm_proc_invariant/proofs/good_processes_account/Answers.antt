use Rattle.fm_proc_invariant.proofs.Lawful.{lawful_where}
use Rattle.fm_proc_invariant.proofs.good_processes_account.Goals as goal

pub returns : goal.returns
returns c = λ shapes. lawful_where shapes
