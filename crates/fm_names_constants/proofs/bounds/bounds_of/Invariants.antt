use Rattle.std.proofs.Common.{◌≡◌, drop}
use Rattle.fm_rules.specs.Bounds.{bounds_of}
use Rattle.fm_names_constants.proofs.Shapes.{before_all}
use Rattle.fm_names_constants.proofs.bounds.bounds_of.Given as goal

abbrev pub invariant-bounds : goal.invariant-bounds
invariant-bounds l = before_all l.pairs (bounds_of l.known l.place (drop l.bound-index l.bounds)) ≡ bounds_of l.known l.place l.bounds
