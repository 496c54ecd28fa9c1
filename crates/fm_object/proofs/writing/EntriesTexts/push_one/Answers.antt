use Rattle.fm_object.proofs.Written.{always}
use Rattle.fm_object.proofs.writing.EntriesTexts.push_one.Goals as goal

pub returns-clause-fits : goal.returns-clause-fits
returns-clause-fits c = always c.push_number-2.result (record { line = c.in_ok-push_number.ensures.short; address = c.push_number-2.ensures.short })
