use Rattle.std.proofs.Common.{map, drop}
use Rattle.fm_rules.specs.Bounds.{dimension_of, shape_of}
use Rattle.fm_names_constants.specs.Kept.{kept_shape}
use Rattle.fm_names_constants.proofs.Shapes.{Comes}
use Rattle.fm_names_constants.proofs.bounds.shape_of.Given as goal

abbrev pub invariant-bounds : goal.invariant-bounds
invariant-bounds l = Comes l.shape (map (dimension_of l.known l.place) (drop l.bound-index l.bounds)) (kept_shape (shape_of l.known l.place l.bounds))
