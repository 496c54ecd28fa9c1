use Rattle.std.proofs.Common.{ap, sym, subst, ◌∙◌}
use Rattle.fm_base.specs.Channels.{all_shed}
use Rattle.fm_chan.specs.Bodies.{chans_of}
use Rattle.fm_plain_net.specs.Held.{AreKept, AreOnce, StayBut}
use Rattle.fm_plain_net.proofs.perform.finish.Goals as goal

pub discard_both-requires-clause-kept : goal.discard_both-requires-clause-kept
discard_both-requires-clause-kept c = subst (AreKept c.args.ports.now) (sym c.in_ok-gone.ensures.drops) c.requires.kept

pub discard_both-requires-clause-once : goal.discard_both-requires-clause-once
discard_both-requires-clause-once c = subst AreOnce (sym c.in_ok-gone.ensures.drops) c.requires.once

pub returns-clause-process : goal.returns-clause-process
returns-clause-process c = c.in_ok-gone.ensures.process

pub returns-clause-channels : goal.returns-clause-channels
returns-clause-channels c = c.discard_both.ensures.channels ∙ ap (λ zs. all_shed zs (chans_of c.args.channels.now)) c.in_ok-gone.ensures.drops

pub returns-clause-others : goal.returns-clause-others
returns-clause-others c = subst (λ zs. StayBut zs c.args.ports.now c.discard_both.new.ports) c.in_ok-gone.ensures.drops c.discard_both.ensures.others
