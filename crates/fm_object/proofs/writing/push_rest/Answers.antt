use Rattle.fm_object.proofs.Written.{always}
use Rattle.fm_object.proofs.writing.push_rest.Goals as goal

pub returns-clause-fits : goal.returns-clause-fits
returns-clause-fits c = always c.push_number-3.result (c.in_ok-push_number.ensures.short, c.in_ok-push_number-2.ensures.short, c.push_number-3.ensures.short)
