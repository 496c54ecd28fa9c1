use Rattle.std.proofs.Common.{◌≡◌, ◌++◌, [], ◌∷◌, List, ℕ, subst, arith}
use Rattle.std.proofs.lemmas.List.{nil_from_length}
use Rattle.fm_graph.specs.Flags.{IsReaching}
use Rattle.fm_graph.proofs.Flags.{load_step, reaching_all, reaching_step}
use Rattle.fm_graph.proofs.reachable.reached.Goals as goal

pub nodes-smaller : goal.nodes-smaller
nodes-smaller c =
    let items : c.nodes.pending.items ≡ c.pop.new.self.items ++ c.in-Some.node ∷ [] = c.in-Some.ensures.items in
    load_step c.args.graph.now c.nodes.flags.items c.look.new.flags.items c.nodes.pending.items c.pop.new.self.items c.look.new.pending.items c.in-Some.node
    items c.in_ok-look.ensures.flags c.in_ok-look.ensures.pending c.nodes.invariant.sized

pub nodes-preserved : goal.nodes-preserved
nodes-preserved c =
    let items : c.nodes.pending.items ≡ c.pop.new.self.items ++ c.in-Some.node ∷ [] = c.in-Some.ensures.items in
    reaching_step c.args.graph.now c.args.from c.nodes.flags.items c.look.new.flags.items c.nodes.pending.items c.pop.new.self.items c.look.new.pending.items c.in-Some.node
    items c.in_ok-look.ensures.flags c.in_ok-look.ensures.pending c.nodes.invariant

pub returns : goal.returns
returns c =
    let empty : c.nodes.pending.items ≡ [] = nil_from_length c.nodes.pending.items (omega (arith, c.in_default.ensures.cases.0, c.nodes.pending.ok.0)) in
    reaching_all c.args.graph.now c.args.from c.nodes.flags.items (subst (λ (ps : List ℕ). IsReaching c.args.graph.now c.args.from c.nodes.flags.items ps) empty c.nodes.invariant)
