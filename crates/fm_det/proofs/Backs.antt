-- The calls that lead back to their unit are the recursions.
use Rattle.std.proofs.Common.{◌≡◌, ℕ, suc, zero, ◌+◌, ◌<◌, ◌≤◌, ⊎_elim, Bool, true, false, Option, Some, None, List, [], ◌∷◌, length, map, drop, get_or, refl, sym, ap, ◌∙◌, subst, arith}
use Rattle.std.specs.Prelude.{Contains}
use Rattle.std.specs.List.{slice_get}
use Rattle.std.proofs.lemmas.Bool.{cases_lt, eqb-true, eq-eqb}
use Rattle.std.proofs.lemmas.List.{drop_more, get_or_past, length-map}
use Rattle.std.proofs.lemmas.List.Elements.{Contains-append_cases, Contains-append_left, Contains-append_right}
use Rattle.std.proofs.lemmas.Option.{get_or_from_slice_get, slice_get-get_or, slice_get_within}
use Rattle.fm_base.specs.declared.rule.Refusal.{Refusal}
use Rattle.fm_base.specs.declared.rule.Rule.TheVariants.{E45}
use Rattle.fm_base.specs.Verdict.{IsVerdict, earliest, least, least_from, place, when}
use Rattle.fm_base.proofs.Least.{least_from_append, least_verdict, verdict_same}
use Rattle.fm_graph.specs.Graph.{IsComponents, IsEdge, IsWalk, Reaches, edges_of}
use Rattle.fm_graph.proofs.Reach.{reach_edge}
use Rattle.fm_tree.specs.declared.program_unit.Unit.{Unit}
use Rattle.fm_symbols.specs.declared.context.Context.{Context}
use Rattle.fm_rules.specs.declared.calls.Call.{Call}
use Rattle.fm_rules.specs.Calls.{all_calls, call_graph, graph_of, target_of}
use Rattle.fm_rules.specs.Recursion.{IsRecursion}
use Rattle.fm_call_graph.specs.Components.{same_name}
use Rattle.fm_det.specs.Search.{all_back_calls, back_calls, is_back}
use Rattle.fm_rules.proofs.Lists.{at_head, behind_head, head_or_behind, in_map, not_in_none}

-- one unit more
pub all_back_more : (names : List ℕ) (css : List (List Call)) (unit : ℕ) (cs : List Call) (best next : Option Refusal) → unit < length css → cs ≡ get_or css unit cs → next ≡ least_from best (back_calls names unit cs)
    → least_from next (all_back_calls names (unit + 1) (drop (unit + 1) css)) ≡ least_from best (all_back_calls names unit (drop unit css))
all_back_more names css unit cs best next l is e =
    ap (λ b. least_from b (all_back_calls names (unit + 1) (drop (unit + 1) css))) e
    ∙ sym (least_from_append best (back_calls names unit cs) (all_back_calls names (unit + 1) (drop (unit + 1) css)))
    ∙ ap (λ ds. least_from best (all_back_calls names unit (ds ∷ drop (unit + 1) css))) is
    ∙ ap (λ dss. least_from best (all_back_calls names unit dss)) (sym (drop_more css unit cs l))

pub data IsBackCall (names : List ℕ) (unit : ℕ) (cs : List Call) (q : Refusal) : Type 0 where
  back_call : (call : Call) → Contains cs call → is_back names unit call ≡ true → q ≡ place call.line.0 E45 → IsBackCall names unit cs q

in_when : (b : Bool) (p q : Refusal) → Contains (when b p) q → (b ≡ true) × (p ≡ q)
in_when true p q c = (refl, ⊎_elim (λ e. e) (λ d. absurd (not_in_none q d)) (head_or_behind p q [] c))
in_when false p q c = absurd (not_in_none q c)

when_true : (b : Bool) (p : Refusal) → b ≡ true → Contains (when b p) p
when_true b p e = subst (λ (x : Bool). Contains (when x p) p) (sym e) (at_head p [])

in_back_calls : (names : List ℕ) (unit : ℕ) (cs : List Call) (q : Refusal) → Contains (back_calls names unit cs) q → IsBackCall names unit cs q
in_back_calls names unit [] q c = absurd (not_in_none q c)
in_back_calls names unit (call ∷ cs) q c =
    ⊎_elim (λ (d : Contains (when (is_back names unit call) (place call.line.0 E45)) q). let w = in_when (is_back names unit call) (place call.line.0 E45) q d in back_call call (at_head call cs) w.0 (sym w.1))
    (λ (d : Contains (back_calls names unit cs) q). on (in_back_calls names unit cs q d))
    (Contains-append_cases (when (is_back names unit call) (place call.line.0 E45)) (back_calls names unit cs) q c)
  where
    on : IsBackCall names unit cs q → IsBackCall names unit (call ∷ cs) q
    on (back_call d i b e) = back_call d (behind_head call d cs i) b e

back_calls_have : (names : List ℕ) (unit : ℕ) (cs : List Call) (call : Call) → Contains cs call → is_back names unit call ≡ true → Contains (back_calls names unit cs) (place call.line.0 E45)
back_calls_have names unit [] call c b = absurd (not_in_none call c)
back_calls_have names unit (d ∷ cs) call c b =
    ⊎_elim (λ (e : d ≡ call). Contains-append_left (when (is_back names unit d) (place d.line.0 E45)) (back_calls names unit cs) (place call.line.0 E45)
    (subst (λ (x : Call). Contains (when (is_back names unit x) (place x.line.0 E45)) (place call.line.0 E45)) (sym e) (when_true (is_back names unit call) (place call.line.0 E45) b)))
    (λ (i : Contains cs call). Contains-append_right (when (is_back names unit d) (place d.line.0 E45)) (back_calls names unit cs) (place call.line.0 E45) (back_calls_have names unit cs call i b))
    (head_or_behind d call cs c)

pub data IsBackFrom (names : List ℕ) (from : ℕ) (css : List (List Call)) (q : Refusal) : Type 0 where
  back_from : (at unit : ℕ) → at < length css → unit ≡ from + at → IsBackCall names unit (get_or css at []) q → IsBackFrom names from css q

in_all_back_calls : (names : List ℕ) (from : ℕ) (css : List (List Call)) (q : Refusal) → Contains (all_back_calls names from css) q → IsBackFrom names from css q
in_all_back_calls names from [] q c = absurd (not_in_none q c)
in_all_back_calls names from (cs ∷ css) q c =
    ⊎_elim (λ (d : Contains (back_calls names from cs) q). back_from 0 from (omega arith) (omega arith) (in_back_calls names from cs q d))
    (λ (d : Contains (all_back_calls names (from + 1) css) q). on (in_all_back_calls names (from + 1) css q d))
    (Contains-append_cases (back_calls names from cs) (all_back_calls names (from + 1) css) q c)
  where
    on : IsBackFrom names (from + 1) css q → IsBackFrom names from (cs ∷ css) q
    on (back_from at unit l e b) = back_from (suc at) unit (omega (arith, l)) (omega (arith, e)) b

all_back_calls_have : (names : List ℕ) (from : ℕ) (css : List (List Call)) (at unit : ℕ) (call : Call) → unit ≡ from + at → Contains (get_or css at []) call → is_back names unit call ≡ true
    → Contains (all_back_calls names from css) (place call.line.0 E45)
all_back_calls_have names from [] at unit call e c b = absurd (not_in_none call c)
all_back_calls_have names from (cs ∷ css) zero unit call e c b =
    Contains-append_left (back_calls names from cs) (all_back_calls names (from + 1) css) (place call.line.0 E45)
    (back_calls_have names from cs call c (let f : from ≡ unit = omega (arith, e) in ap (λ k. is_back names k call) f ∙ b))
all_back_calls_have names from (cs ∷ css) (suc at) unit call e c b =
    Contains-append_right (back_calls names from cs) (all_back_calls names (from + 1) css) (place call.line.0 E45)
    (all_back_calls_have names (from + 1) css at unit call (omega (arith, e)) c b)

-- names of components

pub data IsSame (names : List ℕ) (u t : ℕ) : Type 0 where
  same : u < length names → t < length names → get_or names u u ≡ get_or names t t → IsSame names u t

back_same : (names : List ℕ) (u t : ℕ) → same_name (slice_get names u) (slice_get names t) ≡ true → IsSame names u t
back_same names u t e = of (slice_get names u) (slice_get names t) refl refl e
  where
    of : (a b : Option ℕ) → slice_get names u ≡ a → slice_get names t ≡ b → same_name a b ≡ true → IsSame names u t
    of None b f g h = absurd (cc)
    of (Some x) None f g h = absurd (cc)
    of (Some x) (Some y) f g h =
        same (slice_get_within names u x f) (slice_get_within names t y g)
        (get_or_from_slice_get names u x u f ∙ eqb-true x y h ∙ sym (get_or_from_slice_get names t y t g))

same_back : (names : List ℕ) (u t : ℕ) → u < length names → t < length names → get_or names u u ≡ get_or names t t → same_name (slice_get names u) (slice_get names t) ≡ true
same_back names u t l m e =
    ap (λ a. same_name a (slice_get names t)) (slice_get-get_or names u u l)
    ∙ ap (λ b. same_name (Some (get_or names u u)) b) (slice_get-get_or names t t m)
    ∙ eq-eqb (get_or names u u) (get_or names t t) e

-- a node past the end reaches itself alone
past_stays : (g : List (List ℕ)) (t u : ℕ) → length g ≤ t → Reaches g t u → t ≡ u
past_stays g t u l r = of r.0 r.1
  where
    of : (n : ℕ) → IsWalk g n t u → t ≡ u
    of zero w = w
    of (suc n) w = let e = ap length (get_or_past g t [] l) in let m = w.1.1 in absurd (omega (arith, e, m))

edges_graph : (css : List (List Call)) (u : ℕ) → edges_of (graph_of css) u ≡ map target_of (get_or css u [])
edges_graph [] u = refl
edges_graph (cs ∷ css) zero = refl
edges_graph (cs ∷ css) (suc u) = edges_graph css u

module _ (us : List Unit) (c : Context) (names : List ℕ) (components : IsComponents (call_graph false us c) names) where
  abbrev calls : List (List Call)
  calls = all_calls false us c

  abbrev g : List (List ℕ)
  g = call_graph false us c

  is_recursion : (q : Refusal) → Contains (all_back_calls names 0 calls) q → IsRecursion us c q
  is_recursion q i = of (in_all_back_calls names 0 calls q i)
    where
      by_same : (unit : ℕ) (call : Call) → Contains (get_or calls unit []) call → q ≡ place call.line.0 E45 → IsSame names unit call.target → IsRecursion us c q
      by_same unit call d e (same l m f) =
          let n = components.sized in
          record {
            unit = unit;
            call = call;
            calls = d;
            back = ((components.apart unit call.target (omega (arith, n, l)) (omega (arith, n, m))).0 f).1;
            broken = e;
          }

      by_call : (unit : ℕ) → IsBackCall names unit (get_or calls unit []) q → IsRecursion us c q
      by_call unit (back_call call d b e) = by_same unit call d e (back_same names unit call.target b)

      of : IsBackFrom names 0 calls q → IsRecursion us c q
      of (back_from at unit l e b) = by_call at (subst (λ (k : ℕ). IsBackCall names k (get_or calls at []) q) (let f : unit ≡ at = omega (arith, e) in f) b)

  is_back_call : (q : Refusal) → IsRecursion us c q → Contains (all_back_calls names 0 calls) q
  is_back_call q r =
      let u = r.unit in
      let t = r.call.target in
      let n = components.sized in
      let m = length-map calls (map target_of) in
      let inside : u < length calls =
      ⊎_elim (λ (l : u < length calls). l) (λ (l : length calls ≤ u). absurd (not_in_none r.call (subst (λ (cs : List Call). Contains cs r.call) (get_or_past calls u [] l) r.calls))) (cases_lt u (length calls)) in
      let target : t < length g =
      ⊎_elim (λ (l : t < length g). l) (λ (l : length g ≤ t). let e : t ≡ u = past_stays g t u l r.back in absurd (omega (arith, e, l, m, inside))) (cases_lt t (length g)) in
      let edge : IsEdge g u t = subst (λ (ts : List ℕ). Contains ts t) (sym (edges_graph calls u)) (in_map target_of r.call (get_or calls u []) r.calls) in
      let e : get_or names u u ≡ get_or names t t = (components.apart u t (omega (arith, m, inside)) target).1 (reach_edge g u t edge, r.back) in
      subst (λ (x : Refusal). Contains (all_back_calls names 0 calls) x) (sym r.broken)
      (all_back_calls_have names 0 calls u u r.call (omega arith) r.calls (same_back names u t (omega (arith, n, m, inside)) (omega (arith, n, target)) e))

  pub recursions_found : IsVerdict (IsRecursion us c) (least (all_back_calls names 0 calls))
  recursions_found = verdict_same (Contains (all_back_calls names 0 calls)) (IsRecursion us c) is_recursion is_back_call (least (all_back_calls names 0 calls)) (least_verdict (all_back_calls names 0 calls))

pub kept_true : (b : Bool) (best : Option Refusal) (p : Refusal) → b ≡ true → earliest best p ≡ least_from best (when b p)
kept_true b best p e = subst (λ (x : Bool). earliest best p ≡ least_from best (when x p)) (sym e) refl

pub recursion_found : (us slice : List Unit) (c : Context) (calls view calls2 calls3 : List (List Call)) (graph graph2 : List (List ℕ)) (names names2 : List ℕ) (r : Option Refusal)
    → slice ≡ us → calls ≡ all_calls false slice c → view ≡ calls → calls2 ≡ view → calls3 ≡ view → graph ≡ graph_of calls2 → graph2 ≡ graph → IsComponents graph2 names → names2 ≡ names
    → r ≡ least_from None (all_back_calls names2 0 calls3) → IsVerdict (IsRecursion us c) r
recursion_found us slice c calls view calls2 calls3 graph graph2 names names2 r s a v b d e f h n k =
    let all : view ≡ all_calls false us c = v ∙ a ∙ ap (λ (xs : List Unit). all_calls false xs c) s in
    let g : graph2 ≡ call_graph false us c = f ∙ e ∙ ap graph_of (b ∙ all) in
    let h' : IsComponents (call_graph false us c) names = subst (λ (x : List (List ℕ)). IsComponents x names) g h in
    let z : r ≡ least (all_back_calls names 0 (all_calls false us c)) =
    k ∙ ap (λ (x : List ℕ). least_from None (all_back_calls x 0 calls3)) n ∙ ap (λ (x : List (List Call)). least_from None (all_back_calls names 0 x)) (d ∙ all) in
    subst (λ (x : Option Refusal). IsVerdict (IsRecursion us c) x) (sym z) (recursions_found us c names h')
