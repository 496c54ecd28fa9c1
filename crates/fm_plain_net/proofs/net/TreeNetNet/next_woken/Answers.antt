use Rattle.std.proofs.Common.{refl}
use Rattle.fm_plain_net.proofs.Sound.{same_state, sound_same}
use Rattle.fm_plain_net.proofs.net.TreeNetNet.next_woken.Goals as goal

pub returns-clause-state : goal.returns-clause-state
returns-clause-state c = λ p. same_state p c.args.self.now.trees (record c.args.self.now.trees { channels = c.next_woken.new.self }) refl c.next_woken.ensures.channels

pub returns-clause-sound : goal.returns-clause-sound
returns-clause-sound c = λ p sound. sound_same p c.args.self.now.trees (record c.args.self.now.trees { channels = c.next_woken.new.self }) refl refl c.next_woken.ensures.channels sound
