use Rattle.std.proofs.Common.{arith, ap}
use Rattle.fm_tree.specs.PortFields.{kind_count}
use Rattle.fm_tree.specs.PortReading.{kind_of}
use Rattle.fm_tree.specs.declared.port_type.Field.{Field}
use Rattle.fm_tree.proofs.Nodes.{in_fields}
use Rattle.fm_stmt.proofs.names.+fields.Goals as goal

pub fields_long-field_long-requires : goal.fields_long-field_long-requires
fields_long-field_long-requires t c =
    let below = in_fields c.args.fields.now c.fields.field-index c.field-item.result c.fields-test.true in
    let item = ap (λ (f : Field). kind_count (kind_of f.kind)) c.field-item.is in
    (omega (arith, below, item, c.decreases), tt)
