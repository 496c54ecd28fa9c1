use Rattle.fm_same.proofs.Tests.{exact_words}
use Rattle.fm_same.proofs.same_words.Goals as goal

pub returns : goal.returns
returns c = exact_words c.eq.result c.args.first.now c.args.second.now c.eq.ensures
