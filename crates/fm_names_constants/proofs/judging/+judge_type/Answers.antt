use Rattle.std.proofs.Common.{arith, ap, ◌∙◌}
use Rattle.fm_tree.specs.PortFields.{fields_count, kind_count}
use Rattle.fm_tree.specs.PortReading.{kind_of}
use Rattle.fm_tree.specs.declared.port_type.Field.{Field}
use Rattle.fm_tree.proofs.Nodes.{in_fields}
use Rattle.fm_names_constants.proofs.Steps.{fields_next}
use Rattle.fm_names_constants.proofs.judging.+judge_type.Goals as goal

pub judge_type-judge_field-best-requires : goal.judge_type-judge_field-best-requires
judge_type-judge_field-best-requires t c =
    let seen = ap fields_count c.as_slice-fields.ensures in
    let below = in_fields c.as_slice-fields.result.now c.fields.index c.index-fields-index.result c.fields-test.true in
    let item = ap (λ (f : Field). kind_count (kind_of f.kind)) c.index-fields-index.is in
    (omega (arith, seen, below, item, c.decreases), tt)

pub judge_type-fields-preserved : goal.judge_type-fields-preserved
judge_type-fields-preserved t c =
    rw (c.judge_field-best.ensures, c.split_at.ensures.front)
    (fields_next c.args.known.now c.args.at c.args.line.0 c.fields.best c.as_slice-fields.result.now c.fields.index c.index-fields-index.result c.fields-test.true c.index-fields-index.is
    ∙ c.fields.invariant)
