use Rattle.fm_proc_invariant.proofs.Exchange.{exchange_all}
use Rattle.fm_proc_invariant.proofs.exchange_accounts.Goals as goal

pub returns : goal.returns
returns c = λ mask others ports h first. exchange_all mask others ports h first
