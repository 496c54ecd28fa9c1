-- The type of a port in memory as plain data.
-- Source: this profile.
use Rattle.std.specs.Prelude.{List, [], ◌∷◌}
use Rattle.fm_tree.specs.PortFields.{PortFields, FieldKind, NoFields, FieldThen, Integer, Logical, In, Out}
use Rattle.fm_tree.specs.declared.port_type.Field.{Field}
use Rattle.fm_tree.specs.declared.port_type.Kind.{Kind}
use Rattle.fm_tree.specs.declared.port_type.Kind.TheVariants as kind

abbrev pub kind_of : Kind → FieldKind
kind_of kind.Integer = Integer
kind_of kind.Logical = Logical
kind_of (kind.In p) = In p
kind_of (kind.Out p) = Out p

abbrev pub fields_of : List Field → PortFields
fields_of [] = NoFields
fields_of (f ∷ fs) = FieldThen (kind_of f.kind) f.name f.bounds (fields_of fs)
