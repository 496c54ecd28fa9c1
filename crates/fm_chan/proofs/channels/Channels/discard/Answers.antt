use Rattle.std.proofs.Common.{◌∷◌, ◌++◌, [], refl, ap, ◌∙◌}
use Rattle.fm_base.specs.Channels.{freed}
use Rattle.fm_discards.proofs.Shedding.{all_shed-first}
use Rattle.fm_chan.specs.Bodies.{chans_of}
use Rattle.fm_chan.specs.Events.{chan_at}
use Rattle.fm_chan.specs.Rest.{left_ports}
use Rattle.fm_chan.proofs.Waking.{at_end_wakes, at_end_then_all}
use Rattle.fm_chan.proofs.channels.Channels.discard.Goals as goal

pub returns-clause-channels : goal.returns-clause-channels
returns-clause-channels c =
    let x = c.args.port in
    let m = chans_of c.args.self.now in
    let ports = c.shut.ensures.ports ∙ ap (λ xs. freed x (chan_at x m) ++ xs) c.new-discarding.ensures in
    c.discard_all.ensures.channels ∙ all_shed-first x (x ∷ []) [] (left_ports c.shut.new.discarding) m (chans_of c.shut.new.self) refl ports c.shut.ensures.channels

pub returns-clause-waking : goal.returns-clause-waking
returns-clause-waking c = at_end_wakes _ _ (at_end_then_all _ _ _ (left_ports c.shut.new.discarding) c.discard_all.ensures.channels c.shut.ensures.waking c.discard_all.ensures.waking)
