-- The type of a port as plain data.
-- Source: the Fortran M report, and this profile for the names of fields.
use Rattle.std.specs.Prelude.{ℕ, Option, List, ◌+◌}
use Rattle.fm_tree.specs.declared.port_type.Bound.{Bound}

-- the fields of a message, and the kind of one
mutual
  pub data PortFields : Type 0 where
    NoFields : PortFields
    FieldThen : (kind : FieldKind) → (name : Option (List ℕ)) → (bounds : List Bound) → (rest : PortFields) → PortFields

  pub data FieldKind : Type 0 where
    Integer : FieldKind
    Logical : FieldKind
    In : (fields : PortFields) → FieldKind
    Out : (fields : PortFields) → FieldKind

-- the number of fields and of ends of lists
abbrev mutual
  pub fields_count : PortFields → ℕ
  fields_count NoFields = 1
  fields_count (FieldThen kind name bounds rest) = kind_count kind + fields_count rest

  pub kind_count : FieldKind → ℕ
  kind_count Integer = 1
  kind_count Logical = 1
  kind_count (In fields) = fields_count fields + 1
  kind_count (Out fields) = fields_count fields + 1
