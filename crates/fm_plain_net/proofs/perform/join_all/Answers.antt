use Rattle.std.proofs.Common.{ap, sym, subst, ◌∙◌}
use Rattle.fm_base.specs.Channels.{all_shed}
use Rattle.fm_chan.specs.Bodies.{chans_of}
use Rattle.fm_plain_net.specs.Held.{AreKept, AreOnce, StayBut}
use Rattle.fm_plain_net.proofs.Performing.{dropped_there}
use Rattle.fm_plain_net.proofs.perform.join_all.Goals as goal

pub discard_each-requires-clause-kept : goal.discard_each-requires-clause-kept
discard_each-requires-clause-kept c =
    let can = c.requires in
    subst (AreKept c.args.ports.now) (sym (c.in_ok-joined.ensures.drops can.kids can.frames)) (dropped_there _ c.args.ports.now can.drops)

pub discard_each-requires-clause-once : goal.discard_each-requires-clause-once
discard_each-requires-clause-once c = subst AreOnce (sym (c.in_ok-joined.ensures.drops c.requires.kids c.requires.frames)) c.requires.drops.once

pub returns-clause-joins : goal.returns-clause-joins
returns-clause-joins c = λ kids frames.
    record {
      self_is = c.in_ok-joined.ensures.process kids frames;
      chans_are = c.discard_each.ensures.channels ∙ ap (λ zs. all_shed zs (chans_of c.args.channels.now)) (c.in_ok-joined.ensures.drops kids frames);
      carries = subst (λ zs. StayBut zs c.args.ports.now c.discard_each.new.ports) (c.in_ok-joined.ensures.drops kids frames) c.discard_each.ensures.others;
      cost_is = c.in_ok-joined.ensures.cost kids frames;
    }
