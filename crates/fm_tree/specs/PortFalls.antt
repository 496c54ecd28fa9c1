-- The type of a port in a field has fewer fields than the type with the field.
-- Source: this profile.
use Rattle.std.specs.Prelude.{◌≤◌, max, List, [], ◌∷◌}
use Rattle.std.proofs.Common.{arith}
use denote.Param.Weighed.{most}
use Rattle.fm_tree.specs.PortFields.{fields_count, kind_count}
use Rattle.fm_tree.specs.PortReading.{kind_of, fields_of}
use Rattle.fm_tree.specs.declared.port_type.Field.{Field}
use Rattle.fm_tree.specs.declared.port_type.Kind.{Kind}
use Rattle.fm_tree.specs.declared.port_type.Kind.TheVariants as kind
use Rattle.fm_tree.specs.declared.port_type.PortType.TheDeep.{deep-Field, deep-Kind}

kind_is_smaller : (k : Kind) → deep-Kind k ≤ kind_count (kind_of k)
kind_is_smaller kind.Integer = omega arith
kind_is_smaller kind.Logical = omega arith
kind_is_smaller (kind.In p) = omega arith
kind_is_smaller (kind.Out p) = omega arith

most_of_fields : (fs : List Field) → most deep-Field fs ≤ fields_count (fields_of fs)
most_of_fields [] = omega arith
most_of_fields (f ∷ fs) = omega (arith, most_of_fields fs, kind_is_smaller f.kind)

pub fields_are_smaller : (fs : List Field) → max (most deep-Field fs) 0 ≤ fields_count (fields_of fs)
fields_are_smaller fs = omega (arith, most_of_fields fs)
