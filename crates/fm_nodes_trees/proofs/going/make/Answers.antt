use Rattle.std.proofs.Common.{◌≡◌, ap, ◌∙◌}
use Rattle.std.specs.Option.{option_copied}
use Rattle.fm_net.specs.Lawful.{ports_from}
use Rattle.fm_net.specs.Owned.{name_of}
use Rattle.fm_plain_frame.specs.Frames.{proc_of}
use Rattle.fm_plain_frame.specs.LetGo.{let_go_ports}
use Rattle.fm_nodes_trees.specs.Drops.{drops_in}
use Rattle.fm_nodes_trees.proofs.GoLaws.{in_place, makes}
use Rattle.fm_nodes_trees.proofs.going.make.Goals as goal

pub returns-clause-goes : goal.returns-clause-goes
returns-clause-goes c =
    let p = c.args.program.now in
    let path = c.args.path.now in
    let x = proc_of p c.args.process.now in
    let m = option_copied c.args.message in
    let y = proc_of p c.put_ports.new.process in
    let name = name_of path x.next_channel in
    let ports : c.in_ok-values.values.items ≡ ports_from name c.args.writers = c.in_ok-values.ensures ∙ ap (λ d. ports_from d c.args.writers) (c.in_ok-name.ensures p) in
    let ok = c.in_ok-ports.ensures.ok name c.args.writers c.args.cost ports in
    in_place p path x m c.args.exceeds y (proc_of p) c.alone.result.starts.items (drops_in p c.alone.result.drops) (let_go_ports p c.in_ok-ports.ports) c.alone.result.cost c.args.cost
    (makes p path x m c.args.exceeds c.args.places.now c.args.writers c.args.cost c.args.next c.requires y ok.0 (let_go_ports p c.in_ok-ports.ports) ok.1)
    c.alone.ensures.starts (ap (drops_in p) c.alone.ensures.drops ∙ c.one.ensures p) (c.alone.ensures.cost ∙ c.in_ok-paid.ensures.same)
