use Rattle.std.proofs.Common.{ap, sym, ◌∙◌}
use Rattle.fm_base.specs.Channels.{all_shed}
use Rattle.fm_discards.proofs.Shedding.{all_shed-first, weight-first, all_shed-nil}
use Rattle.fm_chan.specs.Bodies.{chans_of}
use Rattle.fm_chan.specs.Rest.{left_ports}
use Rattle.fm_chan.proofs.Packing.{nothing_left}
use Rattle.fm_chan.proofs.Waking.{at_end_then}
use Rattle.fm_chan.proofs.channels.Channels.discard_all.Goals as goal

pub ports-smaller : goal.ports-smaller
ports-smaller c = weight-first c.in-Some.port _ (left_ports c.next.new.self) _ (chans_of c.ports.self) _ c.in-Some.ensures c.shut.ensures.ports c.shut.ensures.channels

pub ports-preserved : goal.ports-preserved
ports-preserved c = record {
  sheds = all_shed-first c.in-Some.port _ (left_ports c.next.new.self) _ (chans_of c.ports.self) _ c.in-Some.ensures c.shut.ensures.ports c.shut.ensures.channels ∙ c.ports.invariant.sheds;
  room = λ d room. c.shut.ensures.room d (c.ports.invariant.room d room);
  waking = at_end_then _ _ _ c.in-Some.port c.shut.ensures.channels c.ports.invariant.waking c.shut.ensures.waking;
}

pub returns-clause-channels : goal.returns-clause-channels
returns-clause-channels c =
    let left = nothing_left c.next.result (left_ports c.ports.discarding) (left_ports c.next.new.self) c.in_default.not-Some c.next.ensures in
    sym (ap (λ xs. all_shed xs (chans_of c.ports.self)) left ∙ all_shed-nil (chans_of c.ports.self)) ∙ c.ports.invariant.sheds
