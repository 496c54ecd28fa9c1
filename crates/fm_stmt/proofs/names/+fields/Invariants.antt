use Rattle.std.proofs.Common.{◌≡◌, ◌*◌, ◌+◌, drop}
use Rattle.fm_tree.specs.PortFields.{fields_count, kind_count}
use Rattle.fm_tree.specs.PortReading.{fields_of, kind_of}
use Rattle.fm_stmt.specs.Names.{fields_names, has_long}
use Rattle.fm_stmt.proofs.names.+fields.Given as goal

abbrev pub decreases-fields_long : goal.decreases-fields_long
decreases-fields_long l = 3 * fields_count (fields_of l.fields.now)

abbrev pub decreases-field_long : goal.decreases-field_long
decreases-field_long l = 3 * kind_count (kind_of l.field.now.kind) + 1

abbrev pub decreases-kind_long : goal.decreases-kind_long
decreases-kind_long l = 3 * kind_count (kind_of l.kind.now)

abbrev pub decreases-port_type_long : goal.decreases-port_type_long
decreases-port_type_long l = 3 * fields_count l.port_type.now + 1

-- what is left decides
abbrev pub invariant-fields_long-fields : goal.invariant-fields_long-fields
invariant-fields_long-fields l = has_long (fields_names (fields_of (drop l.field-index l.fields))) ≡ has_long (fields_names (fields_of l.fields))
