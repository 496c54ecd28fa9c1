use Rattle.std.proofs.Common.{ap, ◌∙◌}
use Rattle.std.specs.Prelude.{slice_get}
use Rattle.fm_plain_net.proofs.Owns.{own_first}
use Rattle.fm_plain_net.proofs.shown.own_frame.Goals as goal

pub returns-in-Some : goal.returns-in-Some
returns-in-Some c = λ p. own_first p c.args.process.now.top c.args.process.now.below.items c.in-Some.frame.now (c.in-Some.ensures.value ∙ ap (λ fs. slice_get fs 0) c.deref.ensures.value)
