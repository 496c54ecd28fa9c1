use Rattle.fm_net.proofs.Marks.{marks_tell_nothing}
use Rattle.fm_net.proofs.marks_tell_nothing.Goals as goal

pub returns : goal.returns
returns g c = λ language. marks_tell_nothing language
