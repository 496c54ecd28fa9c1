use Rattle.std.proofs.Common.{ℕ, ◌+◌, List, length, refl, sym, ap, ◌∙◌, subst}
use Rattle.std.specs.Prelude.{IfOk}
use Rattle.fm_graph.specs.Graph.{IsComponents}
use Rattle.fm_symbols.specs.declared.names.Variable.{Variable}
use Rattle.fm_plain_frame.specs.Units.{unit_of}
use Rattle.fm_flow.proofs.Searched.{wires_are}
use Rattle.fm_flow.proofs.rings.ring_names.Goals as goal

pub returns : goal.returns
returns c =
    subst (λ (g : List (List ℕ)). IfOk c.components.result (λ names. IsComponents g names.items))
    (wires_are (unit_of c.args.unit.now) _ _ _ _ _ _ _ _ _ (c.as_slice-body.ensures ∙ ap (λ x. x.body) c.tree.ensures) (ap (λ x. length x) c.variables.ensures.variables) refl c.in_ok-ins.ensures
    (c.in_ok-count.ensures ∙ ap (λ (xs : List Variable). c.in_ok-ins.ins + length xs) (c.variables-2.ensures.variables ∙ sym c.variables.ensures.variables))
    c.in_ok-arcs.ensures c.as_slice.ensures c.in_ok-graph.ensures c.deref.ensures.value)
    c.components.ensures
