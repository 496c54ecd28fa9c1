use Rattle.fm_tree_blocks.proofs.Nesting.{blocks_nest as law}
use Rattle.fm_tree_blocks.proofs.blocks_nest.Goals as goal

pub returns : goal.returns
returns c = law
