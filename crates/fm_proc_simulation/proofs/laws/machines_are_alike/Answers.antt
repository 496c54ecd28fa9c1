use Rattle.fm_proc_simulation.proofs.Alike.{correspondence, machines_alike}
use Rattle.fm_proc_simulation.proofs.laws.machines_are_alike.Goals as goal

pub returns : goal.returns
returns c = record { corresponds = correspondence; alike = machines_alike }
