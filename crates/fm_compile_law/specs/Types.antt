-- Sorts and fields of a program's variables and messages, by the numbers of the types of its ports.
-- Source: the Fortran M report (typed ports and channels); the numbers by this profile.
use Rattle.std.specs.Prelude.{ℕ, suc, Option, Some, None, List, [], ◌∷◌}
use Rattle.fm_tree.specs.PortFields.{PortFields, FieldKind, NoFields, FieldThen, Integer, Logical, In, Out}
use Rattle.fm_tree.specs.declared.port_type.Bound.{Bound}
use Rattle.fm_rules.specs.PortTypes.{sizing_place}
use Rattle.fm_mean.specs.Fits.{elements_in}
use Rattle.fm_code_kinds.specs.declared.sorts.Field.{Field}
use Rattle.fm_code_kinds.specs.declared.sorts.Sort.{Sort}
use Rattle.fm_code_kinds.specs.declared.sorts.Sort.TheVariants as sort
use Rattle.fm_object.specs.declared.image.FieldImage.{FieldImage}
use Rattle.fm_image.specs.Types.{number_in}

abbrev pub sort_by : List (List FieldImage) → FieldKind → Sort
sort_by ts Integer = sort.Integer
sort_by ts Logical = sort.Logical
sort_by ts (In p) = sort.In (number_in ts p)
sort_by ts (Out p) = sort.Out (number_in ts p)

-- in the type of a port an array has its number of elements as its one bound, or the place of the field that sizes it
abbrev pub field_by : List (List FieldImage) → FieldKind → List Bound → (size : Option ℕ) → Field
field_by ts k bounds None = record { sort = sort_by ts k; words = elements_in bounds; size = 0 }
field_by ts k bounds (Some place) = record { sort = sort_by ts k; words = 0; size = suc place }

abbrev pub fields_by : List (List FieldImage) → PortFields → List Field
fields_by ts NoFields = []
fields_by ts (FieldThen k name bounds rest) = field_by ts k bounds (sizing_place bounds) ∷ fields_by ts rest
