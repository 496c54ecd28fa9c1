use Rattle.std.proofs.Common.{List, arith, ap}
use Rattle.fm_tree.specs.PortFields.{fields_count, kind_count}
use Rattle.fm_tree.specs.PortReading.{kind_of, fields_of}
use Rattle.fm_tree.specs.declared.port_type.Field.{Field}
use Rattle.fm_tree.proofs.Nodes.{some_field, in_fields}
use Rattle.fm_tree_spell.proofs.port_type.+fields.Goals as goal

pub push_fields-push_field-requires : goal.push_fields-push_field-requires
push_fields-push_field-requires t c =
    let seen = ap fields_count c.as_slice.ensures in
    let split = ap (λ (fs : List Field). fields_count (fields_of fs)) c.in-Some.ensures.cases.0 in
    let some = some_field (fields_of c.in-Some.rest.now) in
    (omega (arith, seen, split, some, c.decreases), tt)

pub push_fields-push_field-requires-in-loop-field : goal.push_fields-push_field-requires-in-loop-field
push_fields-push_field-requires-in-loop-field t c =
    let seen = ap fields_count c.as_slice.ensures in
    let split = ap (λ (fs : List Field). fields_count (fields_of fs)) c.in-Some.ensures.cases.0 in
    let below = in_fields c.in-Some.rest.now c.loop-field.field-index c.field-item.result c.loop-field-test.true in
    let item = ap (λ (f : Field). kind_count (kind_of f.kind)) c.field-item.is in
    (omega (arith, seen, split, below, item, c.decreases), tt)
