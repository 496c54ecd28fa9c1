use Rattle.std.proofs.Common.{arith, ap}
use Rattle.fm_tree.specs.PortFields.{kind_count}
use Rattle.fm_tree.specs.PortReading.{kind_of}
use Rattle.fm_tree.specs.declared.port_type.Field.{Field}
use Rattle.fm_tree.proofs.Nodes.{in_fields as below_fields}
use Rattle.fm_rules.specs.Arrays.{is_array}
use Rattle.fm_names_used.proofs.Fields.{fields_more}
use Rattle.fm_names_used.proofs.occurrences.+fields.Goals as goal

pub meet_fields-meet_field-requires : goal.meet_fields-meet_field-requires
meet_fields-meet_field-requires t c =
    let below = below_fields c.args.fields.now c.fields.index c.index-fields-index.result c.fields-test.true in
    let item = ap (λ (f : Field). kind_count (kind_of f.kind)) c.index-fields-index.is in
    (omega (arith, below, item, c.decreases), tt)

pub meet_fields-fields-preserved : goal.meet_fields-fields-preserved
meet_fields-fields-preserved t c =
    fields_more (is_array c.args.arrays.now) c.args.line c.args.fields.now c.fields.index c.index-fields-index.result c.fields.seen c.meet_field.new.seen _
    c.fields-test.true c.index-fields-index.is (rw c.split_at.ensures.front at c.in_ok-meet_field.ensures) c.fields.invariant
