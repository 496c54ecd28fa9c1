use Rattle.fm_mean.proofs.Laws.{first_nodes_along}
use Rattle.fm_mean.proofs.nodes_are_first.Goals as goal

pub returns : goal.returns
returns c = first_nodes_along
