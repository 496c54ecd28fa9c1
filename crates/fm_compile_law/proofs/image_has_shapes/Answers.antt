use Rattle.fm_compile_law.proofs.Images.{shapes_same, units_same}
use Rattle.fm_compile_law.proofs.image_has_shapes.Goals as goal

pub returns : goal.returns
returns c = record { units = units_same; shapes = shapes_same }
