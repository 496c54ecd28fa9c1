use Rattle.std.proofs.Common.{sym}
use Rattle.fm_procs.proofs.Placing.{emptied_stuck}
use Rattle.fm_procs.proofs.process.CodeProcessProc.rests.Goals as goal

pub returns : goal.returns
returns c = λ p y done. sym (emptied_stuck y)
