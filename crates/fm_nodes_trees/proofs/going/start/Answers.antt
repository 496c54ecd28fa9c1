use Rattle.std.proofs.Common.{◌≡◌, ◌+◌, ℕ, List, map, ap, subst, sym, ◌∙◌}
use Rattle.std.specs.Option.{option_copied}
use Rattle.fm_base.specs.declared.port.PortValue.{PortValue}
use Rattle.fm_plain_frame.specs.Frames.{proc_of}
use Rattle.fm_nodes_trees.specs.Goes.{Goes}
use Rattle.fm_nodes_trees.specs.Told.{open_starts}
use Rattle.fm_nodes_trees.proofs.GoLaws.{begins}
use Rattle.fm_nodes_trees.proofs.going.start.Goals as goal

pub returns-clause-goes : goal.returns-clause-goes
returns-clause-goes c =
    let p = c.args.program.now in
    let path = c.args.path.now in
    let x = proc_of p c.args.process.now in
    let m = option_copied c.args.message in
    let y = proc_of p c.begin.new.process in
    let starts = map (proc_of p) c.in_ok-starts.starts.items in
    let cost = c.in_ok-cost.cost in
    let paid : cost ≡ 1 + open_starts x.execution.frames = c.in_ok-cost.ensures.same ∙ ap (λ (n : ℕ). 1 + n) (c.open_starts.ensures p) in
    subst (λ (zs : List PortValue). Goes p path x m c.args.exceeds y starts zs cost) (sym (c.none.ensures p))
    (begins p path x m c.args.exceeds c.requires y (c.in_ok-starts.ensures.process p) starts (c.in_ok-starts.ensures.starts p) cost paid)
