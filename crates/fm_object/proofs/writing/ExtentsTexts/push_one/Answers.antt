use Rattle.fm_object.proofs.Written.{always}
use Rattle.fm_object.proofs.writing.ExtentsTexts.push_one.Goals as goal

pub returns-clause-fits : goal.returns-clause-fits
returns-clause-fits c = always c.push_number.result c.push_number.ensures.short
