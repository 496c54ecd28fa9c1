-- What is looked through for the least line of each sentence.
-- Source: this profile.
use Rattle.std.specs.Prelude.{◌≡◌, ℕ, ◌+◌, Bool, true, false, cond, ◌||◌, ◌&&◌, not, Option, List, [], ◌∷◌, ◌++◌, length, replicate}
use Rattle.std.specs.FinMap.{contains_key, insert}
use Rattle.fm_base.specs.declared.name.Line.{Line}
use Rattle.fm_tree.specs.declared.program_unit.Entry.{Entry}
use Rattle.fm_tree.specs.declared.program_unit.Placed.{Placed}
use Rattle.fm_tree.specs.declared.statement.Decl.{Decl}
use Rattle.fm_tree.specs.declared.statement.Stmt.{Stmt}
use Rattle.fm_tree.specs.declared.statement.Stmt.TheVariants as stmt
use Rattle.fm_symbols.specs.ByName.{ByName}
use Rattle.fm_symbols.specs.declared.names.Variable.{Variable}
use Rattle.fm_call_graph.specs.Least.{lower_if}
use Rattle.fm_rules.specs.declared.program.Program.{Program}
use Rattle.fm_mean.specs.Names.{ProgramUnit}
use Rattle.fm_flow_law.specs.Flow.{channel_in, channel_out, channel_ports, given, is_once, is_port, is_processes, is_simple, any_bounded, sends_ports, started}
use Rattle.fm_graph.specs.Graph.{IsComponents}
use Rattle.fm_flow.specs.Arcs.{graph_by, is_together}
use Rattle.fm_flow.specs.Marks.{all_flags, any_flag, comes_again, marked}
use Rattle.fm_flow.specs.Units.{TellsRisks, is_risky_unit}

-- the names of variables that are ports
abbrev pub with_port : ByName Bool → Variable → ByName Bool
with_port ports v = cond (is_port v.kind) (insert ports v.name true) ports

abbrev pub ports_from : ByName Bool → List Variable → ByName Bool
ports_from ports [] = ports
ports_from ports (v ∷ vs) = ports_from (with_port ports v) vs

abbrev pub any_key : ByName Bool → List Decl → Bool
any_key ports [] = false
any_key ports (d ∷ ds) = contains_key ports d.name || any_key ports ds

-- it declares ports that are arrays, or whose messages have ports
unfoldable pub is_wide_by : ByName Bool → Stmt → Bool
is_wide_by ports (stmt.Inport t ds) = sends_ports t || any_bounded ds
is_wide_by ports (stmt.Outport t ds) = sends_ports t || any_bounded ds
is_wide_by ports (stmt.Dimension ds) = any_key ports ds
is_wide_by ports s = false

abbrev pub wide_from : ByName Bool → Option Line → List Placed → Option Line
wide_from ports best [] = best
wide_from ports best (d ∷ ds) = wide_from ports (lower_if (is_wide_by ports d.stmt) best d.line) ds

-- `met` says whether a PROCESSES has come
abbrev pub is_foreign_at : Bool → Stmt → Bool
is_foreign_at met s = not (is_simple s) || is_once s && met

abbrev pub foreign_from : Bool → Option Line → List Entry → Option Line
foreign_from met best [] = best
foreign_from met best (e ∷ es) = foreign_from (met || is_processes e.stmt) (lower_if (is_foreign_at met e.stmt) best e.line) es

-- `met` has a flag for each variable that a CHANNEL has named, and `sent` for each that a call gives
abbrev pub is_shared_at : ProgramUnit → (sent met : List Bool) → Stmt → Bool
is_shared_at u sent met s = any_flag met (channel_ports u s) || not (all_flags sent (channel_out u s))

abbrev pub shared_from : ProgramUnit → (sent met : List Bool) → Option Line → List Entry → Option Line
shared_from u sent met best [] = best
shared_from u sent met best (e ∷ es) = shared_from u sent (marked met (channel_ports u e.stmt)) (lower_if (is_shared_at u sent met e.stmt) best e.line) es

-- the flags, when the calls of these have been met too
abbrev pub sent_from : ProgramUnit → List Bool → List Entry → List Bool
sent_from u met [] = met
sent_from u met (e ∷ es) = sent_from u (marked met (given u e.stmt)) es

-- `risks` has a flag for each unit
abbrev pub is_risky_at : Program → ProgramUnit → (risks met : List Bool) → Stmt → Bool
is_risky_at p u risks met s = comes_again false met (given u s) || is_risky_unit risks (started p s)

abbrev pub risky_from : Program → ProgramUnit → (risks met : List Bool) → Option Line → List Entry → Option Line
risky_from p u risks met best [] = best
risky_from p u risks met best (e ∷ es) = risky_from p u risks (marked met (given u e.stmt)) (lower_if (is_risky_at p u risks met e.stmt) best e.line) es

-- Nodes: the entries, then each variable as an outport, then each as an inport.

-- arcs from a node to ports, and from ports to a node
abbrev pub arcs_to : (base node : ℕ) → List ℕ → List (ℕ × ℕ)
arcs_to base node [] = []
arcs_to base node (p ∷ ps) = (node, base + p) ∷ arcs_to base node ps

abbrev pub arcs_back : (base node : ℕ) → List ℕ → List (ℕ × ℕ)
arcs_back base node [] = []
arcs_back base node (p ∷ ps) = (base + p, node) ∷ arcs_back base node ps

-- from a call to its outports, and to it from its inports; from an outport to its CHANNEL, and from that to its inport
abbrev pub entry_arcs : ProgramUnit → (outs ins node : ℕ) → Stmt → List (ℕ × ℕ)
entry_arcs u outs ins node s = arcs_to outs node (given u s) ++ arcs_back ins node (given u s) ++ arcs_back outs node (channel_out u s) ++ arcs_to ins node (channel_in u s)

abbrev pub body_arcs : ProgramUnit → (outs ins node : ℕ) → List Entry → List (ℕ × ℕ)
body_arcs u outs ins node [] = []
body_arcs u outs ins node (e ∷ es) = entry_arcs u outs ins node e.stmt ++ body_arcs u outs ins (node + 1) es

-- whether one of these ports leads back to the node
abbrev pub leads_back : List ℕ → (outs node : ℕ) → List ℕ → Bool
leads_back names outs node [] = false
leads_back names outs node (p ∷ ps) = is_together names node (outs + p) || leads_back names outs node ps

abbrev pub rings_from : ProgramUnit → List ℕ → (outs node : ℕ) → Option Line → List Entry → Option Line
rings_from u names outs node best [] = best
rings_from u names outs node best (e ∷ es) = rings_from u names outs (node + 1) (lower_if (leads_back names outs node (given u e.stmt)) best e.line) es

-- The searches as a whole.

abbrev pub no_flags : ProgramUnit → List Bool
no_flags u = replicate (length u.names.variables) false

-- the least line of a CHANNEL, or one that is known
abbrev pub least_shared : ProgramUnit → Option Line → List Entry → Option Line
least_shared u best body = shared_from u (sent_from u (no_flags u) body) (no_flags u) best body

-- the line behind a search for CHANNELs and calls, before which `best` was known
pub record IsPortSearch (p : Program) (u : ProgramUnit) (best line : Option Line) : Type 0 where
  pub risks : List Bool
  pub told : TellsRisks p risks
  pub is : line ≡ risky_from p u risks (no_flags u) (least_shared u best u.tree.body) u.tree.body

abbrev pub wires : ProgramUnit → List (List ℕ)
wires u =
    graph_by (length u.tree.body + length u.names.variables + length u.names.variables)
    (body_arcs u (length u.tree.body) (length u.tree.body + length u.names.variables) 0 u.tree.body)

-- the line behind a search for rings
pub record IsRingSearch (u : ProgramUnit) (best line : Option Line) : Type 0 where
  pub names : List ℕ
  pub told : IsComponents (wires u) names
  pub is : line ≡ rings_from u names (length u.tree.body) 0 best u.tree.body
