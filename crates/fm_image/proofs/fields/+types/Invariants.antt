use Rattle.std.proofs.Common.{drop}
use Rattle.fm_tree.specs.PortFields.{fields_count, kind_count}
use Rattle.fm_tree.specs.PortReading.{fields_of, kind_of}
use Rattle.fm_image.proofs.Steps.{FieldsGo}
use Rattle.fm_image.proofs.fields.+types.Given as goal

abbrev pub decreases-field_images : goal.decreases-field_images
decreases-field_images l = fields_count (fields_of l.fields.now)

abbrev pub decreases-type_number : goal.decreases-type_number
decreases-type_number l = kind_count (kind_of l.kind.now)

abbrev pub invariant-field_images-each : goal.invariant-field_images-each
invariant-field_images-each l = FieldsGo l.initial.types l.types l.images (drop l.one-index l.fields) l.fields
