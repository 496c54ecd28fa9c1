-- The flags of units: which keep an outport, or reach one that makes channels or processes.
use Rattle.std.proofs.Common.{◌≡◌, ℕ, suc, zero, ◌+◌, ◌<◌, ◌≤◌, ◌⊎◌, inl, inr, ⊎_elim, Bool, true, false, cond, ◌||◌, Option, Some, None, option_map, List, [], ◌∷◌, ◌++◌, length, map, get_or, slice_get, refl, sym, ap, ◌∙◌, subst, arith}
use Rattle.std.specs.Prelude.{Contains}
use Rattle.std.proofs.lemmas.Bool.{cases_lt, eqb-true, eq-eqb}
use Rattle.std.proofs.lemmas.List.{get_or_past, length-map}
use Rattle.std.proofs.lemmas.List.Elements.{Contains-append_cases, Contains-append_left, Contains-append_right}
use Rattle.std.proofs.lemmas.Option.{get_or_from_slice_get, slice_get-get_or, slice_get-map, slice_get_within}
use Rattle.fm_graph.specs.Graph.{IsComponents, IsEdge, Reaches, edges_of}
use Rattle.fm_tree.specs.declared.program_unit.Entry.{Entry}
use Rattle.fm_tree.specs.declared.program_unit.Unit as tree
use Rattle.fm_symbols.specs.declared.names.UnitNames.{UnitNames}
use Rattle.fm_rules.specs.declared.calls.Call.{Call}
use Rattle.fm_rules.specs.Calls.{all_calls, call_graph, calls_of, graph_of, target_of}
use Rattle.fm_rules.specs.declared.program.Program.{Program}
use Rattle.fm_rules.specs.FunctionTitles as facts
use Rattle.fm_rules.specs.Names.{unit_names}
use Rattle.fm_rules.proofs.Lists.{at_head, behind_head, head_or_behind, in_map, not_in_none, some_same}
use Rattle.fm_call_graph.specs.Components.{same_name}
use Rattle.fm_mean.specs.Names.{ProgramUnit, context, unit_at, unit_with}
use Rattle.fm_mean.proofs.Unbroken.{Unbroken, from_rules}
use Rattle.fm_flow_law.specs.Flow.{Makes, calls_inside, is_making, keeps_outport}
use Rattle.fm_flow.specs.Arcs.{graph_by, is_together}
use Rattle.fm_flow.specs.Marks.{flag_at}
use Rattle.fm_flow.specs.Units.{TellsRisks, any_making, arcs_from, call_arc, is_risky, making_arcs, risks_from, unit_arcs}
use Rattle.fm_flow.proofs.Edges.{arc_edge, edge_arc, graph_length}
use Rattle.fm_flow.proofs.Makers.{IsHung, LeadsOn, from_maker, to_maker, to_makers, to_node}

-- ---- names of components

-- two nodes with one name
pub record AreTogether (names : List ℕ) (a b : ℕ) : Type 0 where
  pub left : a < length names
  pub right : b < length names
  pub same : get_or names a a ≡ get_or names b b

pub together_told : (names : List ℕ) (a b : ℕ) → is_together names a b ≡ true → AreTogether names a b
together_told names a b e = go (slice_get names a) (slice_get names b) refl refl e
  where
    go : (x y : Option ℕ) → slice_get names a ≡ x → slice_get names b ≡ y → same_name x y ≡ true → AreTogether names a b
    go None y f g h = absurd (cc h)
    go (Some x) None f g h = absurd (cc h)
    go (Some x) (Some y) f g h = record {
      left = slice_get_within names a x f;
      right = slice_get_within names b y g;
      same = get_or_from_slice_get names a x a f ∙ eqb-true x y h ∙ sym (get_or_from_slice_get names b y b g);
    }

pub told_together : (names : List ℕ) (a b : ℕ) → AreTogether names a b → is_together names a b ≡ true
told_together names a b h =
    ap (λ (x : Option ℕ). same_name x (slice_get names b)) (slice_get-get_or names a a h.left)
    ∙ ap (λ (y : Option ℕ). same_name (Some (get_or names a a)) y) (slice_get-get_or names b b h.right)
    ∙ eq-eqb (get_or names a a) (get_or names b b) h.same

-- ---- entries that make

making_entry : (es : List Entry) → any_making es ≡ true → (e : Entry) × Contains es e × (is_making e.stmt ≡ true)
making_entry [] t = absurd (cc t)
making_entry (e ∷ es) t = go (is_making e.stmt) refl t (λ r. making_entry es r)
  where
    later : (d : Entry) × Contains es d × (is_making d.stmt ≡ true) → (d : Entry) × Contains (e ∷ es) d × (is_making d.stmt ≡ true)
    later h = (h.0, behind_head e h.0 es h.1, h.2)

    go : (b : Bool) → is_making e.stmt ≡ b → (b || any_making es) ≡ true → (any_making es ≡ true → (d : Entry) × Contains es d × (is_making d.stmt ≡ true)) → (d : Entry) × Contains (e ∷ es) d × (is_making d.stmt ≡ true)
    go true is r on = (e, at_head e es, is)
    go false is r on = later (on r)

entry_making : (es : List Entry) (d : Entry) → Contains es d → is_making d.stmt ≡ true → any_making es ≡ true
entry_making [] d c t = absurd (not_in_none d c)
entry_making (e ∷ es) d c t =
    ⊎_elim (λ (same : e ≡ d). ap (λ (b : Bool). b || any_making es) (ap (λ (x : Entry). is_making x.stmt) same ∙ t)) (λ (b : Contains es d). or_later (is_making e.stmt) (any_making es) (entry_making es d b t)) (head_or_behind e d es c)
  where
    or_later : (a b : Bool) → b ≡ true → (a || b) ≡ true
    or_later true b e = refl
    or_later false b e = e

-- ---- the arcs

one_more : (n : ℕ) → n + 1 ≡ suc n
one_more n = omega arith

from_map : {X : Type 0} {Y : Type 0} (f : X → Y) (xs : List X) (y : Y) → Contains (map f xs) y → (x : X) × Contains xs x × (f x ≡ y)
from_map f [] y c = absurd (not_in_none y c)
from_map {X} {Y} f (x ∷ xs) y c = ⊎_elim (λ (same : f x ≡ y). (x, at_head x xs, same)) (λ (d : Contains (map f xs) y). later (from_map f xs y d)) (head_or_behind (f x) y (map f xs) c)
  where
    later : (z : X) × Contains xs z × (f z ≡ y) → (z : X) × Contains (x ∷ xs) z × (f z ≡ y)
    later h = (h.0, behind_head x h.0 xs h.1, h.2)

-- what an arc of a unit is
data IsUnitArc (node : ℕ) (t : tree.Unit) (cs : List Call) (x y : ℕ) : Type 0 where
  to_unit : x ≡ 0 → y ≡ node → IsUnitArc node t cs x y
  makes : any_making t.body ≡ true → x ≡ node → y ≡ 0 → IsUnitArc node t cs x y
  calls : (call : Call) → Contains cs call → x ≡ node → y ≡ suc call.target → IsUnitArc node t cs x y

unit_arc : (node : ℕ) (t : tree.Unit) (cs : List Call) (x y : ℕ) → Contains (unit_arcs node t cs) (x, y) → IsUnitArc node t cs x y
unit_arc node t cs x y c = ⊎_elim (λ (d : Contains (making_arcs node (any_making t.body)) (x, y)). making (any_making t.body) refl d) calling (Contains-append_cases (making_arcs node (any_making t.body)) (map (call_arc node) cs) (x, y) c)
  where
    making : (b : Bool) → any_making t.body ≡ b → Contains {X = ℕ × ℕ} ((0, node) ∷ cond b ((node, 0) ∷ []) []) (x, y) → IsUnitArc node t cs x y
    making true is d =
        ⊎_elim (λ (e : (0, node) ≡ (x, y)). to_unit (sym (ap (λ (a : ℕ × ℕ). a.0) e)) (sym (ap (λ (a : ℕ × ℕ). a.1) e)))
        (λ (f : Contains {X = ℕ × ℕ} ((node, 0) ∷ []) (x, y)). ⊎_elim (λ (e : (node, 0) ≡ (x, y)). makes is (sym (ap (λ (a : ℕ × ℕ). a.0) e)) (sym (ap (λ (a : ℕ × ℕ). a.1) e))) (λ (g : Contains [] (x, y)). absurd (not_in_none (x, y) g)) (head_or_behind (node, 0) (x, y) [] f))
        (head_or_behind (0, node) (x, y) ((node, 0) ∷ []) d)
    making false is d =
        ⊎_elim (λ (e : (0, node) ≡ (x, y)). to_unit (sym (ap (λ (a : ℕ × ℕ). a.0) e)) (sym (ap (λ (a : ℕ × ℕ). a.1) e))) (λ (g : Contains [] (x, y)). absurd (not_in_none (x, y) g)) (head_or_behind (0, node) (x, y) [] d)

    calling : Contains (map (call_arc node) cs) (x, y) → IsUnitArc node t cs x y
    calling d = let h = from_map (call_arc node) cs (x, y) d in calls h.0 h.1 (sym (ap (λ (a : ℕ × ℕ). a.0) h.2)) (sym (ap (λ (a : ℕ × ℕ). a.1) h.2) ∙ one_more h.0.target)

making_there : (node : ℕ) (t : tree.Unit) (cs : List Call) → any_making t.body ≡ true → Contains (unit_arcs node t cs) (node, 0)
making_there node t cs is =
    Contains-append_left (making_arcs node (any_making t.body)) (map (call_arc node) cs) (node, 0)
    (subst (λ (b : Bool). Contains {X = ℕ × ℕ} ((0, node) ∷ cond b ((node, 0) ∷ []) []) (node, 0)) (sym is) (behind_head (0, node) (node, 0) ((node, 0) ∷ []) (at_head (node, 0) [])))

-- the arcs of the unit at a place
record IsArcAt (css : List (List Call)) (number : ℕ) (us : List tree.Unit) (x y : ℕ) : Type 0 where
  at : ℕ
  n : ℕ
  is : n ≡ number + at
  unit : tree.Unit
  there : slice_get us at ≡ Some unit
  arc : Contains (unit_arcs (n + 1) unit (get_or css n [])) (x, y)

arcs_at : (css : List (List Call)) (number : ℕ) (us : List tree.Unit) (x y : ℕ) → Contains (arcs_from css number us) (x, y) → IsArcAt css number us x y
arcs_at css number [] x y c = absurd (not_in_none (x, y) c)
arcs_at css number (t ∷ us) x y c =
    ⊎_elim (λ (d : Contains (unit_arcs (number + 1) t (get_or css number [])) (x, y)). record { at = 0; n = number; is = omega arith; unit = t; there = refl; arc = d })
    (λ (d : Contains (arcs_from css (number + 1) us) (x, y)). later (arcs_at css (number + 1) us x y d)) (Contains-append_cases (unit_arcs (number + 1) t (get_or css number [])) (arcs_from css (number + 1) us) (x, y) c)
  where
    later : IsArcAt css (number + 1) us x y → IsArcAt css number (t ∷ us) x y
    later h = record { at = suc h.at; n = h.n; is = omega (arith, h.is); unit = h.unit; there = h.there; arc = h.arc }

arcs_there : (css : List (List Call)) (number : ℕ) (us : List tree.Unit) (at n : ℕ) (t : tree.Unit) (arc : ℕ × ℕ) → n ≡ number + at → slice_get us at ≡ Some t → Contains (unit_arcs (n + 1) t (get_or css n [])) arc → Contains (arcs_from css number us) arc
arcs_there css number [] at n t arc e is c = absurd (cc is)
arcs_there css number (s ∷ us) zero n t arc e is c =
    let same : n ≡ number = omega (arith, e) in
    let unit : t ≡ s = sym (some_same s t is) in
    Contains-append_left (unit_arcs (number + 1) s (get_or css number [])) (arcs_from css (number + 1) us) arc
    (subst (λ (k : ℕ). Contains (unit_arcs (k + 1) s (get_or css k [])) arc) same (subst (λ (v : tree.Unit). Contains (unit_arcs (n + 1) v (get_or css n [])) arc) unit c))
arcs_there css number (s ∷ us) (suc at) n t arc e is c =
    Contains-append_right (unit_arcs (number + 1) s (get_or css number [])) (arcs_from css (number + 1) us) arc (arcs_there css (number + 1) us at n t arc (omega (arith, e)) is c)

edges_graph : (css : List (List Call)) (u : ℕ) → edges_of (graph_of css) u ≡ map target_of (get_or css u [])
edges_graph [] u = refl
edges_graph (cs ∷ css) zero = refl
edges_graph (cs ∷ css) (suc u) = edges_graph css u

some_at : (us : List tree.Unit) (k : ℕ) → k < length us → (t : tree.Unit) × (slice_get us k ≡ Some t)
some_at [] k less = absurd (omega (arith, less))
some_at (t ∷ us) zero less = (t, refl)
some_at (t ∷ us) (suc k) less = some_at us k (omega (arith, less))

-- ---- the flags

flags_told : (names : List ℕ) (number : ℕ) (ns : List UnitNames) (at n : ℕ) (m : UnitNames) → n ≡ number + at → slice_get ns at ≡ Some m → flag_at (risks_from names number ns) at ≡ is_risky names n m
flags_told names number [] at n m e is = absurd (cc is)
flags_told names number (x ∷ ns) zero n m e is =
    let same : number ≡ n = omega (arith, e) in ap (λ (y : UnitNames). is_risky names number y) (some_same x m is) ∙ ap (λ (k : ℕ). is_risky names k m) same
flags_told names number (x ∷ ns) (suc at) n m e is = flags_told names (number + 1) ns at n m (omega (arith, e)) is

module _ (p : Program) where
  abbrev us : List tree.Unit
  us = p.units.units

  abbrev css : List (List Call)
  css = all_calls true us (context p)

  abbrev hung_graph : List (List ℕ)
  hung_graph = graph_by (length us + 1) (arcs_from css 0 us)

  abbrev MakesHere : ℕ → Type 0
  MakesHere v = (t : tree.Unit) × (slice_get us v ≡ Some t) × (any_making t.body ≡ true)

  edge_at : (v y : ℕ) → IsEdge hung_graph (suc v) y → LeadsOn (calls_inside p) MakesHere v y
  edge_at v y e = by (arcs_at css 0 us (suc v) y (edge_arc (length us + 1) (arcs_from css 0 us) (suc v) y e))
    where
      by : IsArcAt css 0 us (suc v) y → LeadsOn (calls_inside p) MakesHere v y
      by h = of (unit_arc (h.n + 1) h.unit (get_or css h.n []) (suc v) y h.arc)
        where
          of : IsUnitArc (h.n + 1) h.unit (get_or css h.n []) (suc v) y → LeadsOn (calls_inside p) MakesHere v y
          of (to_unit z w) = absurd (omega (arith, z))
          of (makes is x w) =
              let here : h.at ≡ v = omega (arith, x, h.is) in
              to_makers w (h.unit, subst (λ (k : ℕ). slice_get us k ≡ Some h.unit) here h.there, is)
          of (calls call c x w) =
              let here : h.n ≡ v = omega (arith, x) in
              to_node call.target w (subst (λ (k : ℕ). IsEdge (calls_inside p) k call.target) here (subst (λ (ts : List ℕ). Contains ts call.target) (sym (edges_graph css h.n)) (in_map target_of call (get_or css h.n []) c)))

  long : length (calls_inside p) ≡ length us
  long = length-map css (map target_of) ∙ length-map us (calls_of true (context p))

  edge_within : (v w : ℕ) → IsEdge (calls_inside p) v w → v < length us
  edge_within v w e =
      ⊎_elim (λ (less : v < length us). less) (λ (past : length us ≤ v). let l = long in absurd (not_in_none w (subst (λ (ts : List ℕ). Contains ts w) (get_or_past (calls_inside p) v [] (omega (arith, l, past))) e))) (cases_lt v (length us))

  call_up : (v w : ℕ) → IsEdge (calls_inside p) v w → IsEdge hung_graph (suc v) (suc w)
  call_up v w e =
      let less = edge_within v w e in
      let t = some_at us v less in
      let h = from_map target_of (get_or css v []) w (subst (λ (ts : List ℕ). Contains ts w) (edges_graph css v) e) in
      let arc : Contains (unit_arcs (v + 1) t.0 (get_or css v [])) (v + 1, h.0.target + 1) =
      Contains-append_right (making_arcs (v + 1) (any_making t.0.body)) (map (call_arc (v + 1)) (get_or css v [])) (v + 1, h.0.target + 1) (in_map (call_arc (v + 1)) h.0 (get_or css v []) h.1) in
      let edge : IsEdge hung_graph (v + 1) (h.0.target + 1) =
      arc_edge (length us + 1) (arcs_from css 0 us) (v + 1) (h.0.target + 1) (arcs_there css 0 us v v t.0 (v + 1, h.0.target + 1) (omega arith) t.1 arc) (omega (arith, less)) in
      subst (λ (k : ℕ). IsEdge hung_graph (suc v) k) (one_more h.0.target ∙ ap (λ (k : ℕ). suc k) h.2) (subst (λ (k : ℕ). IsEdge hung_graph k (h.0.target + 1)) (one_more v) edge)

  maker_up : (v : ℕ) → v < length us → MakesHere v → IsEdge hung_graph (suc v) 0
  maker_up v less h =
      subst (λ (k : ℕ). IsEdge hung_graph k 0) (one_more v)
      (arc_edge (length us + 1) (arcs_from css 0 us) (v + 1) 0 (arcs_there css 0 us v v h.0 (v + 1, 0) (omega arith) h.1 (making_there (v + 1) h.0 (get_or css v []) h.2)) (omega (arith, less)))

  to_each : (v : ℕ) → v < length us → IsEdge hung_graph 0 (suc v)
  to_each v less =
      let t = some_at us v less in
      let arc : Contains (unit_arcs (v + 1) t.0 (get_or css v [])) (0, v + 1) =
      Contains-append_left (making_arcs (v + 1) (any_making t.0.body)) (map (call_arc (v + 1)) (get_or css v [])) (0, v + 1) (at_head (0, v + 1) (cond (any_making t.0.body) ((v + 1, 0) ∷ []) [])) in
      subst (λ (k : ℕ). IsEdge hung_graph 0 k) (one_more v) (arc_edge (length us + 1) (arcs_from css 0 us) 0 (v + 1) (arcs_there css 0 us v v t.0 (0, v + 1) (omega arith) t.1 arc) (omega arith))

  is_hung : IsHung (calls_inside p) hung_graph MakesHere (length us)
  is_hung = record { leads = edge_at; makers = maker_up; calls = call_up; all = to_each }

  -- the parts of a unit
  record HasParts (n : ℕ) (u : ProgramUnit) : Type 0 where
    tree_is : slice_get us n ≡ Some u.tree
    names_are : slice_get p.names.units n ≡ Some u.names

  parts : (n : ℕ) (u : ProgramUnit) → unit_at p n ≡ Some u → HasParts n u
  parts n u e = go (slice_get us n) (slice_get p.names.units n) refl refl e
    where
      the_unit : (a b : ProgramUnit) → Some a ≡ Some b → a ≡ b
      the_unit a b h = cc

      go : (o : Option tree.Unit) (q : Option UnitNames) → slice_get us n ≡ o → slice_get p.names.units n ≡ q → unit_with o q ≡ Some u → HasParts n u
      go None q a b h = absurd (cc h)
      go (Some t) None a b h = absurd (cc h)
      go (Some t) (Some m) a b h =
          let same : record { tree = t; names = m } ≡ u = the_unit (record { tree = t; names = m }) u h in
          record { tree_is = a ∙ ap (λ (v : ProgramUnit). Some v.tree) same; names_are = b ∙ ap (λ (v : ProgramUnit). Some v.names) same }

  -- each unit has names
  names_there : (k : ℕ) (t : tree.Unit) → Unbroken us p.names.units → slice_get us k ≡ Some t → slice_get p.names.units k ≡ None → ⊥
  names_there k t h here none =
      let f = unit_names (facts.titles_of us) in
      nothing (f t) (sym none ∙ ap (λ (l : List UnitNames). slice_get l k) h.names_are ∙ slice_get-map f us k ∙ ap (option_map f) here)
    where
      nothing : (n : UnitNames) → None ≡ Some n → ⊥
      nothing n e = absurd (cc)

  whole_unit : (k : ℕ) (t : tree.Unit) → slice_get us k ≡ Some t → (u : ProgramUnit) × (unit_at p k ≡ Some u) × (u.tree ≡ t)
  whole_unit k t here = go (slice_get p.names.units k) refl
    where
      go : (o : Option UnitNames) → slice_get p.names.units k ≡ o → (u : ProgramUnit) × (unit_at p k ≡ Some u) × (u.tree ≡ t)
      go None none = absurd (from_rules p ⊥ (λ a b. absurd a) (λ h. names_there k t h here none))
      go (Some m) some = (
        record { tree = t; names = m },
        ap (λ (o : Option tree.Unit). unit_with o (slice_get p.names.units k)) here ∙ ap (unit_with (Some t)) some,
        refl,
      )

  module _ (names : List ℕ) (components : IsComponents hung_graph names) where
    abbrev risks : List Bool
    risks = risks_from names 0 p.names.units

    count_is : length hung_graph ≡ length us + 1
    count_is = graph_length (length us + 1) (arcs_from css 0 us)

    told : (n : ℕ) (u : ProgramUnit) → unit_at p n ≡ Some u → flag_at risks n ≡ (keeps_outport u.names.variables || is_together names 0 (suc n))
    told n u here = flags_told names 0 p.names.units n n u.names (omega arith) (parts n u here).names_are ∙ ap (λ (k : ℕ). keeps_outport u.names.variables || is_together names 0 k) (one_more n)

    within : (n : ℕ) (u : ProgramUnit) → unit_at p n ≡ Some u → n < length us
    within n u here = slice_get_within us n u.tree (parts n u here).tree_is

    reaches_maker : (n : ℕ) → n < length us → is_together names 0 (suc n) ≡ true → Makes p n
    reaches_maker n less t =
        let s = together_told names 0 (suc n) t in
        let c = count_is in
        let both = (components.apart 0 (suc n) (omega (arith, c)) (omega (arith, c, less))).0 s.same in
        let m = to_maker (calls_inside p) hung_graph MakesHere (length us) is_hung n both.1 in
        let w = whole_unit m.0 m.2.0 m.2.1 in
        let e = making_entry m.2.0.body m.2.2 in
        record {
          number = m.0;
          reached = m.1;
          unit = w.0;
          here = w.1;
          entry = e.0;
          within = subst (λ (v : tree.Unit). Contains v.body e.0) (sym w.2) e.1;
          makes = e.2;
        }

    makes_together : (n : ℕ) → n < length us → Makes p n → is_together names 0 (suc n) ≡ true
    makes_together n less m =
        let t = (parts m.number m.unit m.here).tree_is in
        let r = from_maker (calls_inside p) hung_graph MakesHere (length us) is_hung n m.number less (slice_get_within us m.number m.unit.tree t) m.reached (m.unit.tree, t, entry_making m.unit.tree.body m.entry m.within m.makes) in
        let c = count_is in
        let z = components.sized in
        told_together names 0 (suc n) (record {
          left = omega (arith, c, z);
          right = omega (arith, c, z, less);
          same = (components.apart 0 (suc n) (omega (arith, c)) (omega (arith, c, less))).1 (r.0, r.1);
        })

    pub risks_told : TellsRisks p risks
    risks_told = record {
      risky = λ n u here t. by n u here (keeps_outport u.names.variables) refl (sym (told n u here) ∙ t);
      keeps = λ n u here k. told n u here ∙ ap (λ (b : Bool). b || is_together names 0 (suc n)) k;
      makes = λ n u here m. told n u here ∙ or_later (keeps_outport u.names.variables) (is_together names 0 (suc n)) (makes_together n (within n u here) m);
    }
      where
        by : (n : ℕ) (u : ProgramUnit) → unit_at p n ≡ Some u → (b : Bool) → keeps_outport u.names.variables ≡ b → (b || is_together names 0 (suc n)) ≡ true → (keeps_outport u.names.variables ≡ true) ⊎ Makes p n
        by n u here true is t = inl is
        by n u here false is t = inr (reaches_maker n (within n u here) t)

        or_later : (a b : Bool) → b ≡ true → (a || b) ≡ true
        or_later true b e = refl
        or_later false b e = e

-- the same, as the code comes to it
pub risks_found : (p : Program) (slice : List tree.Unit) (calls view : List (List Call)) (arcs arcs2 : List (ℕ × ℕ)) (count : ℕ) (graph graph2 : List (List ℕ)) (names names2 : List ℕ) (ns : List UnitNames) (risks : List Bool)
    → slice ≡ p.units.units → calls ≡ all_calls true slice (context p) → view ≡ calls → arcs ≡ arcs_from view 0 slice → arcs2 ≡ arcs → count ≡ length slice + 1 → graph ≡ graph_by count arcs2 → graph2 ≡ graph → IsComponents graph2 names → names2 ≡ names
    → ns ≡ p.names.units → risks ≡ risks_from names2 0 ns → TellsRisks p risks
risks_found p slice called view arcs arcs2 count graph graph2 names names2 ns flags s a v b b2 c g g2 h n m r =
    let view_is : view ≡ all_calls true p.units.units (context p) = v ∙ a ∙ ap (λ (xs : List tree.Unit). all_calls true xs (context p)) s in
    let arcs_are : arcs2 ≡ arcs_from (all_calls true p.units.units (context p)) 0 p.units.units = b2 ∙ b ∙ ap (λ (xs : List tree.Unit). arcs_from view 0 xs) s ∙ ap (λ (x : List (List Call)). arcs_from x 0 p.units.units) view_is in
    let count_is : count ≡ length p.units.units + 1 = c ∙ ap (λ (xs : List tree.Unit). length xs + 1) s in
    let graph_is : graph2 ≡ graph_by (length p.units.units + 1) (arcs_from (all_calls true p.units.units (context p)) 0 p.units.units) = g2 ∙ g ∙ ap (λ (x : List (ℕ × ℕ)). graph_by count x) arcs_are ∙ ap (λ (k : ℕ). graph_by k (arcs_from (all_calls true p.units.units (context p)) 0 p.units.units)) count_is in
    let told = risks_told p names (subst (λ (x : List (List ℕ)). IsComponents x names) graph_is h) in
    subst (λ (x : List Bool). TellsRisks p x) (sym (r ∙ ap (λ (x : List ℕ). risks_from x 0 ns) n ∙ ap (λ (x : List UnitNames). risks_from names 0 x) m)) told
