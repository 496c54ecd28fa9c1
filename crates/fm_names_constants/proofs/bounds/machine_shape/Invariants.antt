use Rattle.std.proofs.Common.{map, drop}
use Rattle.fm_rules.specs.Bounds.{machine_dimension, machine_shape}
use Rattle.fm_names_constants.specs.Kept.{kept_shape}
use Rattle.fm_names_constants.proofs.Shapes.{Comes}
use Rattle.fm_names_constants.proofs.bounds.machine_shape.Given as goal

abbrev pub invariant-extents : goal.invariant-extents
invariant-extents l = Comes l.shape (map (machine_dimension l.known l.place) (drop l.extent-index l.extents)) (kept_shape (machine_shape l.known l.place l.extents))
