use Rattle.fm_tree.specs.PortReading.{fields_of}
use Rattle.fm_names_constants.proofs.Shapes.{adds_next}
use Rattle.fm_names_constants.proofs.port_types.is_long.Goals as goal

pub fields-preserved : goal.fields-preserved
fields-preserved c =
    rw (c.kept_sum-words.ensures, c.words_of.ensures.words, c.split_at.ensures.front)
    (adds_next c.args.known.now c.args.place c.fields.words c.as_slice-fields.result.now c.fields.index c.index-fields-index.result (fields_of c.as_slice-fields.result.now)
    c.fields-test.true c.index-fields-index.is c.fields.invariant)
