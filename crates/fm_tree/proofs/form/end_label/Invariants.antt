use Rattle.std.proofs.Common.{◌≡◌, drop}
use Rattle.fm_tree.specs.Structure.{end_label}
use Rattle.fm_tree.proofs.form.end_label.Given as goal

abbrev pub invariant-extras : goal.invariant-extras
invariant-extras l = l.found ≡ end_label (drop l.k l.extras)
