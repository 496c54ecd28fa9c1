use Rattle.std.proofs.Common.{sym}
use Rattle.fm_procs.proofs.process.CodeProcessProc.waiting.Goals as goal

pub returns : goal.returns
returns c = λ p w s q y is fits meets not. sym meets
