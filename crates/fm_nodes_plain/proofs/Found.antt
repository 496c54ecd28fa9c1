-- The least line of a declaration of ports over which ports go.
use Rattle.std.proofs.Common.{◌≡◌, ℕ, suc, zero, ◌+◌, ◌<◌, ◌≤◌, ◌⊎◌, inl, inr, ⊎_elim, Bool, true, false, Option, Some, None, List, [], ◌∷◌, length, map, get_or, refl, sym, ap, ◌∙◌, subst, arith}
use Rattle.std.specs.Prelude.{Contains, MatchOption}
use Rattle.std.specs.List.{slice_get}
use Rattle.std.proofs.lemmas.List.{length-map}
use Rattle.std.proofs.lemmas.Option.{slice_get_within}
use Rattle.fm_base.specs.declared.name.Line.{Line}
use Rattle.fm_graph.specs.Graph.{IsReached, Reaches}
use Rattle.fm_tree.specs.declared.program_unit.Placed.{Placed}
use Rattle.fm_tree.specs.declared.program_unit.Unit.{Unit}
use Rattle.fm_symbols.specs.declared.context.Context.{Context}
use Rattle.fm_rules.specs.declared.calls.Call.{Call}
use Rattle.fm_rules.specs.Calls.{all_calls, call_graph, calls_of, graph_of, target_of}
use Rattle.fm_rules.specs.Main.{main_of}
use Rattle.fm_rules.proofs.Lists.{at_head, behind_head, head_or_behind, not_in_none, some_same}
use Rattle.fm_call_graph.specs.Least.{lower_if}
use Rattle.fm_call_graph.proofs.Lowest.{IsLowest, lowest_if, lowest_same}
use Rattle.fm_nodes_plain.specs.Carriers.{IsCarrier, IsFirstCarrierOf, declares_carrier}
use Rattle.fm_nodes_plain.specs.Search.{carriers_from, carriers_in, carriers_in_unit}

pub data InSpecs (ps : List Placed) (k : ℕ) : Type 0 where
  in_specs : (p : Placed) → Contains ps p → declares_carrier p.stmt ≡ true → k ≡ p.line.0 → InSpecs ps k

lowest_in : (P : ℕ → Type 0) (best : Option Line) (ps : List Placed) → IsLowest P best → IsLowest (λ k. P k ⊎ InSpecs ps k) (carriers_in best ps)
lowest_in P best [] h = lowest_same P (λ k. P k ⊎ InSpecs [] k) (λ k x. inl x) (λ k x. ⊎_elim (λ (p : P k). p) (λ (i : InSpecs [] k). absurd (none k i)) x) best h
  where
    none : (k : ℕ) → InSpecs [] k → ⊥
    none k (in_specs p c r i) = not_in_none p c
lowest_in P best (q ∷ ps) h =
    let Here : ℕ → Type 0 = λ k. P k ⊎ ((declares_carrier q.stmt ≡ true) × (q.line.0 ≡ k)) in
    lowest_same (λ k. Here k ⊎ InSpecs ps k) (λ k. P k ⊎ InSpecs (q ∷ ps) k)
    (λ k x. ⊎_elim (λ (y : Here k). ⊎_elim (λ (p : P k). inl p) (λ (z : (declares_carrier q.stmt ≡ true) × (q.line.0 ≡ k)). inr (in_specs q (at_head q ps) z.0 (sym z.1))) y) (λ (i : InSpecs ps k). inr (on k i)) x)
    (λ k x. ⊎_elim (λ (p : P k). inl (inl p)) (λ (i : InSpecs (q ∷ ps) k). back k i) x)
    (carriers_in (lower_if (declares_carrier q.stmt) best q.line) ps) (lowest_in Here (lower_if (declares_carrier q.stmt) best q.line) ps (lowest_if P (declares_carrier q.stmt) best q.line h))
  where
    on : (k : ℕ) → InSpecs ps k → InSpecs (q ∷ ps) k
    on k (in_specs d c r i) = in_specs d (behind_head q d ps c) r i

    back : (k : ℕ) → InSpecs (q ∷ ps) k → (P k ⊎ ((declares_carrier q.stmt ≡ true) × (q.line.0 ≡ k))) ⊎ InSpecs ps k
    back k (in_specs d c r i) =
        ⊎_elim (λ (f : q ≡ d). inl (inr (ap (λ (x : Placed). declares_carrier x.stmt) f ∙ r, ap (λ (x : Placed). x.line.0) f ∙ sym i))) (λ (b : Contains ps d). inr (in_specs d b r i)) (head_or_behind q d ps c)

lowest_unit : (P : ℕ → Type 0) (flag : Bool) (best : Option Line) (u : Unit) → IsLowest P best → IsLowest (λ k. P k ⊎ ((flag ≡ true) × InSpecs u.specs k)) (carriers_in_unit flag best u)
lowest_unit P true best u h =
    lowest_same (λ k. P k ⊎ InSpecs u.specs k) (λ k. P k ⊎ ((true ≡ true) × InSpecs u.specs k)) (λ k x. ⊎_elim (λ (p : P k). inl p) (λ (e : InSpecs u.specs k). inr (refl, e)) x)
    (λ k x. ⊎_elim (λ (p : P k). inl p) (λ (e : (true ≡ true) × InSpecs u.specs k). inr e.1) x) (carriers_in best u.specs) (lowest_in P best u.specs h)
lowest_unit P false best u h =
    lowest_same P (λ k. P k ⊎ ((false ≡ true) × InSpecs u.specs k)) (λ k x. inl x)
    (λ k x. ⊎_elim (λ (p : P k). p) (λ (e : (false ≡ true) × InSpecs u.specs k). let f = e.0 in absurd (cc)) x) best h

pub data InUnits (flags : List Bool) (from : ℕ) (us : List Unit) (k : ℕ) : Type 0 where
  in_units : (at number : ℕ) (u : Unit) → number ≡ from + at → slice_get us at ≡ Some u → get_or flags number false ≡ true → InSpecs u.specs k → InUnits flags from us k

lowest_from : (P : ℕ → Type 0) (flags : List Bool) (from : ℕ) (best : Option Line) (us : List Unit) → IsLowest P best → IsLowest (λ k. P k ⊎ InUnits flags from us k) (carriers_from flags from best us)
lowest_from P flags from best [] h = lowest_same P (λ k. P k ⊎ InUnits flags from [] k) (λ k x. inl x) (λ k x. ⊎_elim (λ (p : P k). p) (λ (i : InUnits flags from [] k). absurd (none k i)) x) best h
  where
    none : (k : ℕ) → InUnits flags from [] k → ⊥
    none k (in_units at number u e f g i) = let l = slice_get_within [] at u f in absurd (omega (arith, l))
lowest_from P flags from best (u ∷ us) h =
    let flag = get_or flags from false in
    let Here : ℕ → Type 0 = λ k. P k ⊎ ((flag ≡ true) × InSpecs u.specs k) in
    lowest_same (λ k. Here k ⊎ InUnits flags (from + 1) us k) (λ k. P k ⊎ InUnits flags from (u ∷ us) k)
    (λ k x. ⊎_elim (λ (y : Here k). ⊎_elim (λ (p : P k). inl p) (λ (z : (flag ≡ true) × InSpecs u.specs k). inr (in_units 0 from u (omega arith) refl z.0 z.1)) y) (λ (i : InUnits flags (from + 1) us k). inr (on k i)) x)
    (λ k x. ⊎_elim (λ (p : P k). inl (inl p)) (λ (i : InUnits flags from (u ∷ us) k). back k i) x)
    (carriers_from flags (from + 1) (carriers_in_unit flag best u) us) (lowest_from Here flags (from + 1) (carriers_in_unit flag best u) us (lowest_unit P flag best u h))
  where
    on : (k : ℕ) → InUnits flags (from + 1) us k → InUnits flags from (u ∷ us) k
    on k (in_units at number v e f g i) = in_units (suc at) number v (omega (arith, e)) f g i

    split : (k at number : ℕ) (v : Unit) → number ≡ from + at → slice_get (u ∷ us) at ≡ Some v → get_or flags number false ≡ true → InSpecs v.specs k
        → (P k ⊎ ((get_or flags from false ≡ true) × InSpecs u.specs k)) ⊎ InUnits flags (from + 1) us k
    split k zero number v e f g i =
        let n : from ≡ number = omega (arith, e) in
        inl (inr (ap (λ m. get_or flags m false) n ∙ g, subst (λ (x : Unit). InSpecs x.specs k) (sym (some_same u v f)) i))
    split k (suc at) number v e f g i = inr (in_units at number v (omega (arith, e)) f g i)

    back : (k : ℕ) → InUnits flags from (u ∷ us) k → (P k ⊎ ((get_or flags from false ≡ true) × InSpecs u.specs k)) ⊎ InUnits flags (from + 1) us k
    back k (in_units at number v e f g i) = split k at number v e f g i

module _ (us : List Unit) (c : Context) (main : ℕ) (starts : main_of us ≡ Some main) (flags : List Bool) (reached : IsReached (call_graph true us c) main flags) where
  long : length (call_graph true us c) ≡ length us
  long = length-map (all_calls true us c) (map target_of) ∙ length-map us (calls_of true c)

  is_carrier : (k : ℕ) → InUnits flags 0 us k → IsCarrier us c k
  is_carrier k (in_units at number u e f g i) = of i
    where
      within : number < length (call_graph true us c)
      within = let l = slice_get_within us at u f in omega (arith, long, e, l)

      unit : slice_get us number ≡ Some u
      unit = let n : number ≡ at = omega (arith, e) in ap (slice_get us) n ∙ f

      of : InSpecs u.specs k → IsCarrier us c k
      of (in_specs d w r j) = record {
        main = main;
        starts = starts;
        number = number;
        reached = (reached.reached number within).0 g;
        unit = u;
        here = unit;
        placed = d;
        within = w;
        carries = r;
        at = j;
      }

  in_a_unit : (k : ℕ) → IsCarrier us c k → InUnits flags 0 us k
  in_a_unit k r =
      let m : r.main ≡ main = some_same r.main main (sym r.starts ∙ starts) in
      let w = slice_get_within us r.number r.unit r.here in
      in_units r.number r.number r.unit (omega arith) r.here
      ((reached.reached r.number (omega (arith, w, long))).1 (subst (λ (x : ℕ). Reaches (call_graph true us c) x r.number) m r.reached))
      (in_specs r.placed r.within r.carries r.at)

  low_carrier : (best : Option Line) → IsLowest (IsCarrier us c) best → IsFirstCarrierOf us c best
  low_carrier None h = h
  low_carrier (Some b) h = record { carrier = h.here; least = h.least }

  pub carriers_found : IsFirstCarrierOf us c (carriers_from flags 0 None us)
  carriers_found =
      low_carrier (carriers_from flags 0 None us)
      (lowest_same (λ k. ⊥ ⊎ InUnits flags 0 us k) (IsCarrier us c) (λ k x. ⊎_elim (λ y. absurd y) (λ (i : InUnits flags 0 us k). is_carrier k i) x) (λ k r. inr (in_a_unit k r))
      (carriers_from flags 0 None us) (lowest_from (λ k. ⊥) flags 0 None us (λ k x. x)))

pub carrier_found : (us : List Unit) (c : Context) (main : ℕ) (calls view : List (List Call)) (graph graph2 : List (List ℕ)) (flags flags2 : List Bool) (r : Option Line)
    → main_of us ≡ Some main → calls ≡ all_calls true us c → view ≡ calls → graph ≡ graph_of view → graph2 ≡ graph → IsReached graph2 main flags → flags2 ≡ flags
    → r ≡ carriers_from flags2 0 None us → IsFirstCarrierOf us c r
carrier_found us c main calls view graph graph2 flags flags2 r starts a v e f h n k =
    let g : graph2 ≡ call_graph true us c = f ∙ e ∙ ap graph_of (v ∙ a) in
    let h' : IsReached (call_graph true us c) main flags = subst (λ (x : List (List ℕ)). IsReached x main flags) g h in
    let z : r ≡ carriers_from flags 0 None us = k ∙ ap (λ (x : List Bool). carriers_from x 0 None us) n in
    subst (λ (x : Option Line). IsFirstCarrierOf us c x) (sym z) (carriers_found us c main starts flags h')

-- a text without a PROGRAM reaches no unit
pub none_reached : (us : List Unit) (c : Context) → main_of us ≡ None → IsFirstCarrierOf us c None
none_reached us c none = λ line r. let s = r.starts in absurd (cc)
