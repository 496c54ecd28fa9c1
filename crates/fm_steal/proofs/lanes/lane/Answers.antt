use Rattle.fm_steal.proofs.Deals.{begins}
use Rattle.fm_steal.proofs.lanes.lane.Goals as goal

pub fifo_as-requires : goal.fifo_as-requires
fifo_as-requires g c = begins
