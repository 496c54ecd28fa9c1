use Rattle.fm_proc_invariant.proofs.Children.{goes_over}
use Rattle.fm_proc_invariant.proofs.starts_account.Goals as goal

pub returns : goal.returns
returns c = λ cells words from to rest low. goes_over cells 0 words from to rest low
