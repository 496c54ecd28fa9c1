use Rattle.fm_object.specs.Texts.{FieldFits}
use Rattle.fm_object.proofs.Written.{list_fits, with_last}
use Rattle.fm_object.proofs.writing.TypesTexts.push_one.Goals as goal

pub returns-clause-fits : goal.returns-clause-fits
returns-clause-fits c =
    with_last c.push_all.result (list_fits FieldFits c.args.item.now c.as_slice.result.now c.len.result c.as_slice.ensures c.len.ensures c.in_ok-push_length.ensures.few) c.push_all.ensures.fits
