use Rattle.fm_tree_blocks.proofs.Paths.{paths_agree as law}
use Rattle.fm_tree_blocks.proofs.paths_agree.Goals as goal

pub returns : goal.returns
returns c = law
