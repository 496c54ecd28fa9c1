use Rattle.std.proofs.Common.{◌≡◌, map, take}
use Rattle.fm_image_typed.specs.Shapes.{shape_of}
use Rattle.fm_verify.proofs.shapes.units_of.Given as goal

abbrev pub invariant-units : goal.invariant-units
invariant-units l = l.all.items ≡ map shape_of (take l.unit-index l.units)
