use Rattle.std.proofs.Common.{Option, List, ℤ, map, ap, subst, sym}
use Rattle.std.proofs.lemmas.Result.{IfOk-weaker}
use Rattle.std.specs.Option.{option_copied}
use Rattle.fm_plain_frame.specs.Frames.{proc_of}
use Rattle.fm_nodes_trees.specs.Drops.{drops_in}
use Rattle.fm_nodes_trees.specs.Goes.{Goes}
use Rattle.fm_nodes_trees.proofs.going.receive.Goals as goal

pub returns-in-Some-clause-goes : goal.returns-in-Some-clause-goes
returns-in-Some-clause-goes c =
    let p = c.args.program.now in
    let path = c.args.path.now in
    let x = proc_of p c.args.process.now in
    IfOk-weaker c.store.result _ _ (λ g is. subst (λ (m : Option (List (List ℤ))). Goes p path x m c.args.exceeds (proc_of p c.store.new.process) (map (proc_of p) g.starts.items) (drops_in p g.drops) g.cost) (ap option_copied (sym c.in-Some.is)) is) c.store.ensures.goes

pub returns-in-None-clause-goes : goal.returns-in-None-clause-goes
returns-in-None-clause-goes c =
    let p = c.args.program.now in
    let path = c.args.path.now in
    let x = proc_of p c.args.process.now in
    let g = c.meet.result in
    subst (λ (m : Option (List (List ℤ))). Goes p path x m c.args.exceeds (proc_of p c.meet.new.process) (map (proc_of p) g.starts.items) (drops_in p g.drops) g.cost) (ap option_copied (sym c.in-None.is)) c.meet.ensures.goes
