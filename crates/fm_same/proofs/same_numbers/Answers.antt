use Rattle.fm_same.proofs.Tests.{exact_numbers}
use Rattle.fm_same.proofs.same_numbers.Goals as goal

pub returns : goal.returns
returns c = exact_numbers c.eq.result c.args.first.now c.args.second.now c.eq.ensures
