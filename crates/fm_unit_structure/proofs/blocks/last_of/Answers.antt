use Rattle.fm_tree_blocks.proofs.Lists.{last_first}
use Rattle.fm_unit_structure.proofs.blocks.last_of.Goals as goal

pub returns : goal.returns
returns g c = let t = last_first c.args.items.now in let l = c.last.ensures.value in let v = c.copied.ensures in cc
