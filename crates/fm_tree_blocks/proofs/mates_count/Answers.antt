use Rattle.fm_tree_blocks.proofs.Mates.{mates_count as law}
use Rattle.fm_tree_blocks.proofs.mates_count.Goals as goal

pub returns : goal.returns
returns c = law
