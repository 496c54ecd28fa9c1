use Rattle.fm_mean.proofs.Machines.{machines_along}
use Rattle.fm_mean.proofs.machines_have_nodes.Goals as goal

pub returns : goal.returns
returns c = machines_along
