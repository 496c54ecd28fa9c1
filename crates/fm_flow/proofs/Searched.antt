-- The searches as the code comes to them.
use Rattle.std.proofs.Common.{◌≡◌, ℕ, ◌+◌, Bool, Option, None, List, length, ap, ◌∙◌, subst}
use Rattle.std.specs.FinMap.{empty}
use Rattle.fm_base.specs.declared.name.Line.{Line}
use Rattle.fm_graph.specs.Graph.{IsComponents}
use Rattle.fm_tree.specs.declared.program_unit.Entry.{Entry}
use Rattle.fm_tree.specs.declared.program_unit.Placed.{Placed}
use Rattle.fm_symbols.specs.ByName.{ByName}
use Rattle.fm_symbols.specs.declared.names.Variable.{Variable}
use Rattle.fm_rules.specs.declared.program.Program.{Program}
use Rattle.fm_mean.specs.Names.{ProgramUnit}
use Rattle.fm_flow.specs.Arcs.{graph_by}
use Rattle.fm_flow.specs.Units.{TellsRisks}
use Rattle.fm_flow.specs.Walks.{IsPortSearch, IsRingSearch, body_arcs, least_shared, no_flags, ports_from, rings_from, risky_from, wide_from, wires}

-- declarations, by the names of ports
pub wide_search : (u : ProgramUnit) (variables : List Variable) (ports : ByName Bool) (ds : List Placed) (wide : Option Line) → variables ≡ u.names.variables → ports ≡ ports_from empty variables → ds ≡ u.tree.specs
    → wide ≡ wide_from ports None ds → wide ≡ wide_from (ports_from empty u.names.variables) None u.tree.specs
wide_search u variables ports ds wide v p d w =
    w ∙ ap (λ (x : ByName Bool). wide_from x None ds) (p ∙ ap (λ (x : List Variable). ports_from empty x) v) ∙ ap (λ (x : List Placed). wide_from (ports_from empty u.names.variables) None x) d

pub port_search : (p q : Program) (u : ProgramUnit) (body : List Entry) (best shared line : Option Line) (met risks seen : List Bool)
    → q ≡ p → body ≡ u.tree.body → met ≡ no_flags u → shared ≡ least_shared u best body → TellsRisks q risks → seen ≡ risks → line ≡ risky_from p u seen met shared body → IsPortSearch p u best line
port_search p q u body best shared line met risks seen e b m s told r i =
    record {
      risks = risks;
      told = subst (λ (x : Program). TellsRisks x risks) e told;
      is = i ∙ ap (λ (x : List Bool). risky_from p u x met shared body) r ∙ ap (λ (x : List Bool). risky_from p u risks x shared body) m
          ∙ ap (λ (x : Option Line). risky_from p u risks (no_flags u) x body) s ∙ ap (λ (x : List Entry). risky_from p u risks (no_flags u) (least_shared u best x) x) b;
    }

-- the graph of calls, ports and channels
pub wires_are : (u : ProgramUnit) (body : List Entry) (variables outs ins count : ℕ) (arcs view : List (ℕ × ℕ)) (graph seen : List (List ℕ))
    → body ≡ u.tree.body → variables ≡ length u.names.variables → outs ≡ length body → ins ≡ outs + variables → count ≡ ins + variables → arcs ≡ body_arcs u outs ins 0 body → view ≡ arcs
    → graph ≡ graph_by count view → seen ≡ graph → seen ≡ wires u
wires_are u body variables outs ins count arcs view graph seen b v o i c a w g s =
    let outs_is : outs ≡ length u.tree.body = o ∙ ap (λ (x : List Entry). length x) b in
    let ins_is : ins ≡ length u.tree.body + length u.names.variables = i ∙ ap (λ (n : ℕ). n + variables) outs_is ∙ ap (λ (n : ℕ). length u.tree.body + n) v in
    let count_is : count ≡ length u.tree.body + length u.names.variables + length u.names.variables =
    c ∙ ap (λ (n : ℕ). n + variables) ins_is ∙ ap (λ (n : ℕ). length u.tree.body + length u.names.variables + n) v in
    s ∙ g ∙ ap (λ (x : List (ℕ × ℕ)). graph_by count x) (w ∙ a) ∙ ap (λ (n : ℕ). graph_by n (body_arcs u outs ins 0 body)) count_is
    ∙ ap (λ (n : ℕ). graph_by (length u.tree.body + length u.names.variables + length u.names.variables) (body_arcs u n ins 0 body)) outs_is
    ∙ ap (λ (n : ℕ). graph_by (length u.tree.body + length u.names.variables + length u.names.variables) (body_arcs u (length u.tree.body) n 0 body)) ins_is
    ∙ ap (λ (x : List Entry). graph_by (length u.tree.body + length u.names.variables + length u.names.variables) (body_arcs u (length u.tree.body) (length u.tree.body + length u.names.variables) 0 x)) b

pub ring_search : (u : ProgramUnit) (body : List Entry) (best line : Option Line) (names view : List ℕ) → body ≡ u.tree.body → IsComponents (wires u) names → view ≡ names → line ≡ rings_from u view (length body) 0 best body → IsRingSearch u best line
ring_search u body best line names view b told v i =
    record {
      names = names;
      told = told;
      is = i ∙ ap (λ (x : List ℕ). rings_from u x (length body) 0 best body) v ∙ ap (λ (x : List Entry). rings_from u names (length x) 0 best x) b;
    }
