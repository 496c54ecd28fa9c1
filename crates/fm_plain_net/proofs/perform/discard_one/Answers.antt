use Rattle.std.proofs.Common.{◌≡◌, ◌∷◌, [], ap, sym, ◌∙◌}
use Rattle.fm_base.specs.Channels.{all_shed}
use Rattle.fm_chan.specs.Bodies.{chans_of}
use Rattle.fm_plain_net.proofs.Loads.{stay_without}
use Rattle.fm_chan.proofs.Waking.{wakes_all}
use Rattle.fm_plain_net.proofs.perform.discard_one.Goals as goal

pub unreachable-requires : goal.unreachable-requires
unreachable-requires c = cc (sym c.in-None.is ∙ c.take.ensures.value ∙ c.requires)

pub returns-clause-channels : goal.returns-clause-channels
returns-clause-channels c =
    let same : c.in-Some.port ≡ c.args.value = cc (sym c.in-Some.is ∙ c.take.ensures.value ∙ c.requires) in
    c.discard.ensures.channels ∙ ap (λ z. all_shed (z ∷ []) (chans_of c.args.channels.now)) same

pub returns-clause-others : goal.returns-clause-others
returns-clause-others c = stay_without c.args.value c.args.ports.now c.take.new.self c.take.ensures.others

pub returns-clause-waking : goal.returns-clause-waking
returns-clause-waking c = wakes_all c.args.channels.now c.discard.new.self c.discard.ensures.waking
