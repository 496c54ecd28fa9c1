use Rattle.std.proofs.Common.{◌≡◌, map}
use Rattle.fm_image_typed.specs.Codes.{formals_from}
use Rattle.fm_image_typed.specs.Shapes.{cell_of}
use Rattle.fm_execute_image.proofs.formals.formals_of.Given as goal

-- those of the places before are there
abbrev pub invariant-formals : goal.invariant-formals
invariant-formals l = l.formals ≡ formals_from (map cell_of l.unit.cells) 1 l.before
