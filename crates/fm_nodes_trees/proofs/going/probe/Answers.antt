use Rattle.std.proofs.Common.{[], ap, ◌∙◌}
use Rattle.std.specs.Option.{option_copied}
use Rattle.fm_plain_frame.specs.Frames.{proc_of}
use Rattle.fm_nodes_trees.specs.Drops.{drops_in}
use Rattle.fm_nodes_trees.proofs.GoLaws.{in_place, probes}
use Rattle.fm_nodes_trees.proofs.going.probe.Goals as goal

pub returns-clause-goes : goal.returns-clause-goes
returns-clause-goes c =
    let p = c.args.program.now in
    let path = c.args.path.now in
    let x = proc_of p c.args.process.now in
    let m = option_copied c.args.message in
    let y = proc_of p c.put_probe.new.process in
    in_place p path x m c.args.exceeds y (proc_of p) c.alone.result.starts.items (drops_in p c.alone.result.drops) [] c.alone.result.cost 1
    (probes p path x m c.args.exceeds c.args.channel.now c.args.empty c.args.next c.requires y c.put_probe.ensures)
    c.alone.ensures.starts (ap (drops_in p) c.alone.ensures.drops ∙ c.none.ensures p) c.alone.ensures.cost
