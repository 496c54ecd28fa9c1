use Rattle.fm_stmt.proofs.CardLaws.{one_tree_law}
use Rattle.fm_stmt.proofs.checked.one_tree.Goals as goal

pub returns : goal.returns
returns c = one_tree_law
