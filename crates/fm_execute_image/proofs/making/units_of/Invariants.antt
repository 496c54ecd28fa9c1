use Rattle.std.proofs.Common.{◌≡◌, map, take}
use Rattle.fm_image_typed.specs.Codes.{unit_of}
use Rattle.fm_execute_image.proofs.making.units_of.Given as goal

-- those before are made
abbrev pub invariant-units : goal.invariant-units
invariant-units l = l.made ≡ map unit_of (take l.unit-index l.units)
