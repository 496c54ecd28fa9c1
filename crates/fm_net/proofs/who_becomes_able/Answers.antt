use Rattle.fm_net.proofs.Wakes.{becomes_able}
use Rattle.fm_net.proofs.who_becomes_able.Goals as goal

pub returns : goal.returns
returns g c = λ language. becomes_able language
