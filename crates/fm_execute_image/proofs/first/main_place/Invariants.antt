use Rattle.std.proofs.Common.{◌≡◌, drop}
use Rattle.fm_image_law.specs.Image.{main_from}
use Rattle.fm_execute_image.proofs.first.main_place.Given as goal

-- it is among the rest
abbrev pub invariant-units : goal.invariant-units
invariant-units l = main_from 0 l.units ≡ main_from l.number (drop l.number l.units)
