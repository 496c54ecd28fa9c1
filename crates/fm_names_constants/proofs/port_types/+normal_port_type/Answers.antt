use Rattle.std.proofs.Common.{arith, ap, ◌∙◌}
use Rattle.fm_tree.specs.PortFields.{fields_count, kind_count}
use Rattle.fm_tree.specs.PortReading.{kind_of}
use Rattle.fm_tree.specs.declared.port_type.Field.{Field}
use Rattle.fm_tree.proofs.Nodes.{in_fields}
use Rattle.fm_names_constants.proofs.Fields.{normals_next, normal_whole}
use Rattle.fm_names_constants.proofs.port_types.+normal_port_type.Goals as goal

pub normal_port_type-normal_field-requires : goal.normal_port_type-normal_field-requires
normal_port_type-normal_field-requires t c =
    let seen = ap fields_count c.as_slice-fields.ensures in
    let below = in_fields c.as_slice-fields.result.now c.fields.index c.index-fields-index.result c.fields-test.true in
    let item = ap (λ (f : Field). kind_count (kind_of f.kind)) c.index-fields-index.is in
    (omega (arith, seen, below, item, c.decreases), tt)

pub normal_port_type-fields-preserved : goal.normal_port_type-fields-preserved
normal_port_type-fields-preserved t c =
    rw (c.in_ok-push.ensures.items, c.in_ok-normal_field.ensures, c.split_at.ensures.front)
    (normals_next c.args.known.now c.args.place c.as_slice-fields.result.now c.fields.normal.items c.fields.index c.index-fields-index.result c.fields-test.true c.index-fields-index.is
    ∙ c.fields.invariant)

pub normal_port_type-returns : goal.normal_port_type-returns
normal_port_type-returns t c =
    let made = normal_whole c.args.known.now c.args.place c.as_slice-fields.result.now c.fields.normal.items c.fields.index c.args.port_type.now (omega arith) c.fields.invariant c.as_slice-fields.ensures in
    rw made at c.new.ensures
