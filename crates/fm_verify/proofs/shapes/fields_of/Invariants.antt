use Rattle.std.proofs.Common.{◌≡◌, map, take}
use Rattle.fm_image_typed.specs.Shapes.{field_of}
use Rattle.fm_verify.proofs.shapes.fields_of.Given as goal

abbrev pub invariant-fields : goal.invariant-fields
invariant-fields l = l.all.items ≡ map field_of (take l.field-index l.fields)
