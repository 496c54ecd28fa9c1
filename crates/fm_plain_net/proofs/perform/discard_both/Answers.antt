use Rattle.std.proofs.Common.{ap, sym, ◌∙◌}
use Rattle.fm_base.specs.Channels.{all_shed}
use Rattle.fm_chan.specs.Bodies.{chans_of}
use Rattle.fm_discards.proofs.Order.{all_shed-append}
use Rattle.fm_plain_frame.specs.LetGo.{let_go_ports}
use Rattle.fm_plain_net.proofs.Loads.{part_kept, part_once, rest_kept, rest_once, stay_more}
use Rattle.fm_chan.proofs.Waking.{wakes_all_then}
use Rattle.fm_plain_net.proofs.perform.discard_both.Goals as goal

pub discard_all-requires-clause-kept : goal.discard_all-requires-clause-kept
discard_all-requires-clause-kept c = part_kept (let_go_ports c.args.program.now c.args.first) (let_go_ports c.args.program.now c.args.second) c.args.ports.now c.requires.kept

pub discard_all-requires-clause-once : goal.discard_all-requires-clause-once
discard_all-requires-clause-once c = part_once (let_go_ports c.args.program.now c.args.first) (let_go_ports c.args.program.now c.args.second) c.requires.once

pub discard_all-requires-2-clause-kept : goal.discard_all-requires-2-clause-kept
discard_all-requires-2-clause-kept c = rest_kept (let_go_ports c.args.program.now c.args.first) (let_go_ports c.args.program.now c.args.second) c.args.ports.now c.discard_all.new.ports c.requires.once c.requires.kept c.discard_all.ensures.others

pub discard_all-requires-2-clause-once : goal.discard_all-requires-2-clause-once
discard_all-requires-2-clause-once c = rest_once (let_go_ports c.args.program.now c.args.first) (let_go_ports c.args.program.now c.args.second) c.requires.once

pub returns-clause-channels : goal.returns-clause-channels
returns-clause-channels c =
    c.discard_all-2.ensures.channels ∙ ap (all_shed (let_go_ports c.args.program.now c.args.second)) c.discard_all.ensures.channels
    ∙ sym (all_shed-append (let_go_ports c.args.program.now c.args.first) (let_go_ports c.args.program.now c.args.second) (chans_of c.args.channels.now))

pub returns-clause-others : goal.returns-clause-others
returns-clause-others c =
    stay_more (let_go_ports c.args.program.now c.args.first) (let_go_ports c.args.program.now c.args.second) c.args.ports.now c.discard_all.new.ports c.discard_all-2.new.ports c.discard_all.ensures.others c.discard_all-2.ensures.others

pub returns-clause-waking : goal.returns-clause-waking
returns-clause-waking c = wakes_all_then c.args.channels.now c.discard_all.new.channels c.discard_all-2.new.channels c.discard_all.ensures.waking c.discard_all-2.ensures.waking
