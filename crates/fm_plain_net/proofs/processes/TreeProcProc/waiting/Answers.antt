use Rattle.fm_plain_net.proofs.Nexts.{next_waits}
use Rattle.fm_run.proofs.Programs.{owned_reached}
use Rattle.fm_plain_net.proofs.processes.TreeProcProc.waiting.Goals as goal

pub returns : goal.returns
returns c = λ P w s q y is fits meets not. next_waits P s q y is c.args.event (owned_reached P s fits.reached) meets not
