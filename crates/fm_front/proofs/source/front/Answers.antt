use Rattle.fm_front.proofs.CardVerdicts.{refused_form}
use Rattle.fm_front.proofs.source.front.Goals as goal

pub returns-in-Err-clause-refused : goal.returns-in-Err-clause-refused
returns-in-Err-clause-refused c = refused_form c.args.source.now c.in-Err.fail c.in-Err.ensures.refused
