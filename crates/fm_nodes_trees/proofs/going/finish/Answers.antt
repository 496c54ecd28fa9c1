use Rattle.std.proofs.Common.{◌≡◌, [], ◌∷◌, ◌++◌, List, ap, refl, ◌∙◌, append-nil}
use Rattle.std.specs.List.{flat_map}
use Rattle.std.specs.Option.{option_copied}
use Rattle.fm_base.specs.declared.port.PortValue.{PortValue}
use Rattle.fm_mean.specs.Steps.{ended}
use Rattle.fm_plain_frame.specs.declared.let_go.LetGo.{LetGo}
use Rattle.fm_plain_frame.specs.Frames.{proc_of}
use Rattle.fm_plain_frame.specs.LetGo.{let_go_ports}
use Rattle.fm_nodes_trees.specs.Drops.{drops_in}
use Rattle.fm_nodes_trees.proofs.GoLaws.{ends, in_place}
use Rattle.fm_nodes_trees.proofs.going.finish.Goals as goal

pub returns-clause-goes : goal.returns-clause-goes
returns-clause-goes c =
    let p = c.args.program.now in
    let path = c.args.path.now in
    let x = proc_of p c.args.process.now in
    let m = option_copied c.args.message in
    let y = proc_of p c.end.new.process in
    let gone = c.in_ok-gone.gone in
    let rest : c.push_reserved.new.self.items ≡ gone.1 ∷ [] = c.push_reserved.ensures.items ∙ ap (λ (ls : List LetGo). ls ++ gone.1 ∷ []) c.in_ok-rest.ensures.items in
    let drops =
    ap (drops_in p) c.alone.ensures.drops ∙ c.new.ensures p
    ∙ ap (λ (ls : List LetGo). let_go_ports p gone.0 ++ flat_map (let_go_ports p) ls) rest
    ∙ ap (λ (zs : List PortValue). let_go_ports p gone.0 ++ zs) (append-nil (let_go_ports p gone.1))
    ∙ c.in_ok-gone.ensures.drops in
    in_place p path x m c.args.exceeds y (proc_of p) c.alone.result.starts.items (drops_in p c.alone.result.drops) (ended p x).drops c.alone.result.cost 1
    (ends p path x m c.args.exceeds c.requires y c.in_ok-gone.ensures.process (ended p x).drops refl)
    c.alone.ensures.starts drops c.alone.ensures.cost
