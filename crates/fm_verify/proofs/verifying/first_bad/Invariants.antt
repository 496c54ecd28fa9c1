use Rattle.std.proofs.Common.{take}
use Rattle.std.specs.List.{AllByRecursion}
use Rattle.fm_image_typed.specs.Typed.{UnitIsTyped}
use Rattle.fm_verify.proofs.verifying.first_bad.Given as goal

-- those before make sense
abbrev pub invariant-units : goal.invariant-units
invariant-units l = AllByRecursion (UnitIsTyped l.image) (take l.number l.image.units)
