use Rattle.fm_same.proofs.SamePrograms.{exact_fields}
use Rattle.fm_same.proofs.parts.same_type.Goals as goal

pub returns : goal.returns
returns c = exact_fields c.eq.result c.args.first.now c.args.second.now c.eq.ensures
