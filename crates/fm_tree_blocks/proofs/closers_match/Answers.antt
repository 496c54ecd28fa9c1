use Rattle.fm_tree_blocks.proofs.Paths.{closer_is_mate as law}
use Rattle.fm_tree_blocks.proofs.closers_match.Goals as goal

pub returns : goal.returns
returns c = law
