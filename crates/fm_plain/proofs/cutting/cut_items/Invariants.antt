use Rattle.std.proofs.Common.{◌≡◌, [], length}
use Rattle.fm_tree.specs.PortReading.{fields_of}
use Rattle.fm_mean.specs.Actions.{cut_items}
use Rattle.fm_plain.specs.Cutting.{behind_cut}
use Rattle.fm_plain.proofs.cutting.cut_items.Given as goal

abbrev pub invariant-items : goal.invariant-items
invariant-items l = behind_cut l.done (cut_items l.done (fields_of l.left) l.waiting.items) ≡ cut_items [] (fields_of l.fn.fields) l.fn.items

abbrev pub decreases-items : goal.decreases-items
decreases-items l = length l.waiting.items
