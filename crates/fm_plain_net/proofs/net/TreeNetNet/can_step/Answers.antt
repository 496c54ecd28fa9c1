use Rattle.std.proofs.lemmas.Result.{IfOk-weaker}
use Rattle.fm_plain_net.proofs.net.TreeNetNet.can_step.Goals as goal

pub returns : goal.returns
returns c = IfOk-weaker c.can_step.result _ _ (λ r can. can c.args.program.now c.requires.sound.told c.requires.sound.families c.requires.sound.fits) c.can_step.ensures
