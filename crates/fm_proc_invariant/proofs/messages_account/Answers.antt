use Rattle.fm_proc_invariant.proofs.Messages.{message_in, message_out, status_kept}
use Rattle.fm_proc_invariant.proofs.messages_account.Goals as goal

pub returns-clause-sent : goal.returns-clause-sent
returns-clause-sent c = λ mask others items h. message_out mask others items h

pub returns-clause-received : goal.returns-clause-received
returns-clause-received c = λ mask others items m h. message_in mask others items m h

pub returns-clause-status : goal.returns-clause-status
returns-clause-status c = λ mask others h status n. status_kept mask others h status n
