use Rattle.std.proofs.Common.{[], None, ap, ◌∙◌}
use Rattle.fm_plain_frame.specs.Frames.{proc_of}
use Rattle.fm_nodes_trees.specs.Drops.{drops_in}
use Rattle.fm_nodes_trees.proofs.GoLaws.{in_place, overflows, stops}
use Rattle.fm_nodes_trees.proofs.going.meet.Goals as goal

pub returns-then-exceeds-clause-goes : goal.returns-then-exceeds-clause-goes
returns-then-exceeds-clause-goes c =
    let p = c.args.program.now in
    let path = c.args.path.now in
    let x = proc_of p c.args.process.now in
    let y = proc_of p c.fail.new.process in
    in_place p path x None c.args.exceeds y (proc_of p) c.alone.result.starts.items (drops_in p c.alone.result.drops) [] c.alone.result.cost 1
    (overflows p path x c.args.channel.now c.args.line.0 c.args.places.now c.args.iostat c.args.at_end c.args.next c.requires c.args.exceeds c.if-exceeds.true y (c.fail.ensures p))
    c.alone.ensures.starts (ap (drops_in p) c.alone.ensures.drops ∙ c.none.ensures p) c.alone.ensures.cost

pub returns-else-exceeds-clause-goes : goal.returns-else-exceeds-clause-goes
returns-else-exceeds-clause-goes c =
    let p = c.args.program.now in
    let path = c.args.path.now in
    let x = proc_of p c.args.process.now in
    let y = proc_of p c.meet_end.new.process in
    in_place p path x None c.args.exceeds y (proc_of p) c.alone-else-exceeds.result.starts.items (drops_in p c.alone-else-exceeds.result.drops) [] c.alone-else-exceeds.result.cost 1
    (stops p path x c.args.channel.now c.args.line.0 c.args.places.now c.args.iostat c.args.at_end c.args.next c.requires c.args.exceeds c.if-exceeds.false y c.meet_end.ensures)
    c.alone-else-exceeds.ensures.starts (ap (drops_in p) c.alone-else-exceeds.ensures.drops ∙ c.none-else-exceeds.ensures p) c.alone-else-exceeds.ensures.cost
