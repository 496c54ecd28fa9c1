use Rattle.std.proofs.Common.{◌≡◌, List, map, take}
use Rattle.fm_object.specs.declared.image.FieldImage.{FieldImage}
use Rattle.fm_image_typed.specs.Shapes.{field_of}
use Rattle.fm_verify.proofs.shapes.types_of.Given as goal

abbrev pub invariant-types : goal.invariant-types
invariant-types l = l.all.items ≡ map (λ (fs : List FieldImage). map field_of fs) (take l.fields-index l.types)
