use Rattle.fm_object.proofs.Written.{always}
use Rattle.fm_object.proofs.writing.FieldsTexts.push_one.Goals as goal

pub returns-clause-fits : goal.returns-clause-fits
returns-clause-fits c =
    always c.push_number-4.result
    (record { kind = c.in_ok-push_number.ensures.short; of = c.in_ok-push_number-2.ensures.short; words = c.in_ok-push_number-3.ensures.short; size = c.push_number-4.ensures.short })
