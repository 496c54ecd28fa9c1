use Rattle.std.proofs.Common.{◌+◌, [], ap, ◌∙◌}
use Rattle.std.specs.Option.{option_copied}
use Rattle.fm_mean.specs.Actions.{message_words}
use Rattle.fm_mean.specs.Places.{message_from}
use Rattle.fm_plain_frame.specs.Frames.{proc_of}
use Rattle.fm_nodes_trees.specs.Drops.{drops_in}
use Rattle.fm_nodes_trees.proofs.GoLaws.{in_place, sends}
use Rattle.fm_nodes_trees.proofs.going.send.Goals as goal

pub returns-clause-goes : goal.returns-clause-goes
returns-clause-goes c =
    let p = c.args.program.now in
    let path = c.args.path.now in
    let x = proc_of p c.args.process.now in
    let m = option_copied c.args.message in
    let y = proc_of p c.take_message.new.process in
    in_place p path x m c.args.exceeds y (proc_of p) c.alone.result.starts.items (drops_in p c.alone.result.drops) [] c.alone.result.cost c.in_ok-cost.cost
    (sends p path x m c.args.exceeds c.args.channel.now c.args.writer c.args.items c.args.next c.requires y c.in_ok-take_message.ensures.ok.0 c.in_ok-cost.cost (λ vs. c.in_ok-cost.ensures.cost vs ∙ ap (λ as_items. 1 + message_words (message_from vs as_items).1) c.as_slice.ensures))
    c.alone.ensures.starts (ap (drops_in p) c.alone.ensures.drops ∙ c.none.ensures p) c.alone.ensures.cost
