-- The least line of a race.
use Rattle.std.proofs.Common.{◌≡◌, ℕ, suc, zero, ◌+◌, ◌<◌, ◌⊎◌, inl, inr, ⊎_elim, Bool, true, false, Option, Some, None, List, [], ◌∷◌, length, map, get_or, refl, sym, ap, ◌∙◌, subst, arith}
use Rattle.std.specs.Prelude.{Contains}
use Rattle.std.specs.List.{slice_get}
use Rattle.std.proofs.lemmas.List.{length-map}
use Rattle.std.proofs.lemmas.Option.{slice_get_within}
use Rattle.fm_base.specs.declared.name.Line.{Line}
use Rattle.fm_graph.specs.Graph.{IsReached, Reaches}
use Rattle.fm_tree.specs.declared.program_unit.Entry.{Entry}
use Rattle.fm_tree.specs.declared.program_unit.Unit.{Unit}
use Rattle.fm_symbols.specs.declared.context.Context.{Context}
use Rattle.fm_symbols.specs.declared.context.Scope.{Scope}
use Rattle.fm_rules.specs.declared.calls.Call.{Call}
use Rattle.fm_rules.specs.Calls.{all_calls, call_graph, calls_of, graph_of, target_of}
use Rattle.fm_rules.specs.Main.{main_of}
use Rattle.fm_rules.specs.Race.{IsRace, IsRaceVerdict, is_racy}
use Rattle.fm_call_graph.specs.Least.{lower_if}
use Rattle.fm_call_graph.proofs.Lowest.{IsLowest, lowest_if, lowest_same}
use Rattle.fm_det.specs.Search.{racy_from, racy_in, racy_in_unit}
use Rattle.fm_rules.proofs.Lists.{at_head, behind_head, head_or_behind, not_in_none, some_same}

pub data InEntries (s : Option Scope) (es : List Entry) (k : ℕ) : Type 0 where
  in_entries : (e : Entry) → Contains es e → is_racy s e.stmt ≡ true → k ≡ e.line.0 → InEntries s es k

lowest_in : (s : Option Scope) (P : ℕ → Type 0) (best : Option Line) (es : List Entry) → IsLowest P best → IsLowest (λ k. P k ⊎ InEntries s es k) (racy_in s best es)
lowest_in s P best [] h = lowest_same P (λ k. P k ⊎ InEntries s [] k) (λ k x. inl x) (λ k x. ⊎_elim (λ (p : P k). p) (λ (i : InEntries s [] k). absurd (none k i)) x) best h
  where
    none : (k : ℕ) → InEntries s [] k → ⊥
    none k (in_entries e c r i) = not_in_none e c
lowest_in s P best (e ∷ es) h =
    let Here : ℕ → Type 0 = λ k. P k ⊎ ((is_racy s e.stmt ≡ true) × (e.line.0 ≡ k)) in
    lowest_same (λ k. Here k ⊎ InEntries s es k) (λ k. P k ⊎ InEntries s (e ∷ es) k)
    (λ k x. ⊎_elim (λ (y : Here k). ⊎_elim (λ (p : P k). inl p) (λ (z : (is_racy s e.stmt ≡ true) × (e.line.0 ≡ k)). inr (in_entries e (at_head e es) z.0 (sym z.1))) y) (λ (i : InEntries s es k). inr (on k i)) x)
    (λ k x. ⊎_elim (λ (p : P k). inl (inl p)) (λ (i : InEntries s (e ∷ es) k). back k i) x)
    (racy_in s (lower_if (is_racy s e.stmt) best e.line) es) (lowest_in s Here (lower_if (is_racy s e.stmt) best e.line) es (lowest_if P (is_racy s e.stmt) best e.line h))
  where
    on : (k : ℕ) → InEntries s es k → InEntries s (e ∷ es) k
    on k (in_entries d c r i) = in_entries d (behind_head e d es c) r i

    back : (k : ℕ) → InEntries s (e ∷ es) k → (P k ⊎ ((is_racy s e.stmt ≡ true) × (e.line.0 ≡ k))) ⊎ InEntries s es k
    back k (in_entries d c r i) =
        ⊎_elim (λ (f : e ≡ d). inl (inr (ap (λ (x : Entry). is_racy s x.stmt) f ∙ r, ap (λ (x : Entry). x.line.0) f ∙ sym i))) (λ (b : Contains es d). inr (in_entries d b r i)) (head_or_behind e d es c)

lowest_unit : (s : Option Scope) (P : ℕ → Type 0) (flag : Bool) (best : Option Line) (u : Unit) → IsLowest P best → IsLowest (λ k. P k ⊎ ((flag ≡ true) × InEntries s u.body k)) (racy_in_unit s flag best u)
lowest_unit s P true best u h =
    lowest_same (λ k. P k ⊎ InEntries s u.body k) (λ k. P k ⊎ ((true ≡ true) × InEntries s u.body k)) (λ k x. ⊎_elim (λ (p : P k). inl p) (λ (e : InEntries s u.body k). inr (refl, e)) x)
    (λ k x. ⊎_elim (λ (p : P k). inl p) (λ (e : (true ≡ true) × InEntries s u.body k). inr e.1) x) (racy_in s best u.body) (lowest_in s P best u.body h)
lowest_unit s P false best u h =
    lowest_same P (λ k. P k ⊎ ((false ≡ true) × InEntries s u.body k)) (λ k x. inl x)
    (λ k x. ⊎_elim (λ (p : P k). p) (λ (e : (false ≡ true) × InEntries s u.body k). let f = e.0 in absurd (cc)) x) best h

pub data InUnits (scopes : List Scope) (flags : List Bool) (from : ℕ) (us : List Unit) (k : ℕ) : Type 0 where
  in_units : (at number : ℕ) (u : Unit) → number ≡ from + at → slice_get us at ≡ Some u → get_or flags number false ≡ true → InEntries (slice_get scopes number) u.body k → InUnits scopes flags from us k

lowest_from : (P : ℕ → Type 0) (scopes : List Scope) (flags : List Bool) (from : ℕ) (best : Option Line) (us : List Unit) → IsLowest P best → IsLowest (λ k. P k ⊎ InUnits scopes flags from us k) (racy_from scopes flags from best us)
lowest_from P scopes flags from best [] h = lowest_same P (λ k. P k ⊎ InUnits scopes flags from [] k) (λ k x. inl x) (λ k x. ⊎_elim (λ (p : P k). p) (λ (i : InUnits scopes flags from [] k). absurd (none k i)) x) best h
  where
    none : (k : ℕ) → InUnits scopes flags from [] k → ⊥
    none k (in_units at number u e f g i) = let l = slice_get_within [] at u f in absurd (omega (arith, l))
lowest_from P scopes flags from best (u ∷ us) h =
    let flag = get_or flags from false in
    let s = slice_get scopes from in
    let Here : ℕ → Type 0 = λ k. P k ⊎ ((flag ≡ true) × InEntries s u.body k) in
    lowest_same (λ k. Here k ⊎ InUnits scopes flags (from + 1) us k) (λ k. P k ⊎ InUnits scopes flags from (u ∷ us) k)
    (λ k x. ⊎_elim (λ (y : Here k). ⊎_elim (λ (p : P k). inl p) (λ (z : (flag ≡ true) × InEntries s u.body k). inr (in_units 0 from u (omega arith) refl z.0 z.1)) y) (λ (i : InUnits scopes flags (from + 1) us k). inr (on k i)) x)
    (λ k x. ⊎_elim (λ (p : P k). inl (inl p)) (λ (i : InUnits scopes flags from (u ∷ us) k). back k i) x)
    (racy_from scopes flags (from + 1) (racy_in_unit s flag best u) us) (lowest_from Here scopes flags (from + 1) (racy_in_unit s flag best u) us (lowest_unit s P flag best u h))
  where
    on : (k : ℕ) → InUnits scopes flags (from + 1) us k → InUnits scopes flags from (u ∷ us) k
    on k (in_units at number v e f g i) = in_units (suc at) number v (omega (arith, e)) f g i

    split : (k at number : ℕ) (v : Unit) → number ≡ from + at → slice_get (u ∷ us) at ≡ Some v → get_or flags number false ≡ true → InEntries (slice_get scopes number) v.body k
        → (P k ⊎ ((get_or flags from false ≡ true) × InEntries (slice_get scopes from) u.body k)) ⊎ InUnits scopes flags (from + 1) us k
    split k zero number v e f g i =
        let n : from ≡ number = omega (arith, e) in
        inl (inr (ap (λ m. get_or flags m false) n ∙ g, subst (λ (m : ℕ). InEntries (slice_get scopes m) u.body k) (sym n) (subst (λ (x : Unit). InEntries (slice_get scopes number) x.body k) (sym (some_same u v f)) i)))
    split k (suc at) number v e f g i = inr (in_units at number v (omega (arith, e)) f g i)

    back : (k : ℕ) → InUnits scopes flags from (u ∷ us) k → (P k ⊎ ((get_or flags from false ≡ true) × InEntries (slice_get scopes from) u.body k)) ⊎ InUnits scopes flags (from + 1) us k
    back k (in_units at number v e f g i) = split k at number v e f g i

module _ (us : List Unit) (c : Context) (main : ℕ) (starts : main_of us ≡ Some main) (flags : List Bool) (reached : IsReached (call_graph true us c) main flags) where
  long : length (call_graph true us c) ≡ length us
  long = length-map (all_calls true us c) (map target_of) ∙ length-map us (calls_of true c)

  is_race : (k : ℕ) → InUnits c.scopes flags 0 us k → IsRace us c k
  is_race k (in_units at number u e f g i) = of i
    where
      within : number < length (call_graph true us c)
      within = let l = slice_get_within us at u f in omega (arith, long, e, l)

      unit : slice_get us number ≡ Some u
      unit = let n : number ≡ at = omega (arith, e) in ap (slice_get us) n ∙ f

      of : InEntries (slice_get c.scopes number) u.body k → IsRace us c k
      of (in_entries d w r j) = record {
        main = main;
        starts = starts;
        number = number;
        reached = (reached.reached number within).0 g;
        unit = u;
        here = unit;
        entry = d;
        within = w;
        racy = r;
        at = j;
      }

  in_a_unit : (k : ℕ) → IsRace us c k → InUnits c.scopes flags 0 us k
  in_a_unit k r =
      let m : r.main ≡ main = some_same r.main main (sym r.starts ∙ starts) in
      let w = slice_get_within us r.number r.unit r.here in
      in_units r.number r.number r.unit (omega arith) r.here
      ((reached.reached r.number (omega (arith, w, long))).1 (subst (λ (x : ℕ). Reaches (call_graph true us c) x r.number) m r.reached))
      (in_entries r.entry r.within r.racy r.at)

  low_race : (best : Option Line) → IsLowest (IsRace us c) best → IsRaceVerdict us c best
  low_race None h = h
  low_race (Some b) h = record { race = h.here; least = h.least }

  pub races_found : IsRaceVerdict us c (racy_from c.scopes flags 0 None us)
  races_found =
      low_race (racy_from c.scopes flags 0 None us)
      (lowest_same (λ k. ⊥ ⊎ InUnits c.scopes flags 0 us k) (IsRace us c) (λ k x. ⊎_elim (λ y. absurd y) (λ (i : InUnits c.scopes flags 0 us k). is_race k i) x) (λ k r. inr (in_a_unit k r))
      (racy_from c.scopes flags 0 None us) (lowest_from (λ k. ⊥) c.scopes flags 0 None us (λ k x. x)))

pub race_found : (us slice : List Unit) (c : Context) (main : ℕ) (calls view calls2 : List (List Call)) (graph graph2 : List (List ℕ)) (flags flags2 : List Bool) (r : Option Line)
    → slice ≡ us → main_of slice ≡ Some main → calls ≡ all_calls true slice c → view ≡ calls → calls2 ≡ view → graph ≡ graph_of calls2 → graph2 ≡ graph → IsReached graph2 main flags → flags2 ≡ flags
    → r ≡ racy_from c.scopes flags2 0 None slice → IsRaceVerdict us c r
race_found us slice c main calls view calls2 graph graph2 flags flags2 r s starts a v b e f h n k =
    let all : view ≡ all_calls true us c = v ∙ a ∙ ap (λ (xs : List Unit). all_calls true xs c) s in
    let g : graph2 ≡ call_graph true us c = f ∙ e ∙ ap graph_of (b ∙ all) in
    let h' : IsReached (call_graph true us c) main flags = subst (λ (x : List (List ℕ)). IsReached x main flags) g h in
    let z : r ≡ racy_from c.scopes flags 0 None us =
    k ∙ ap (λ (x : List Bool). racy_from c.scopes x 0 None slice) n ∙ ap (racy_from c.scopes flags 0 None) s in
    subst (λ (x : Option Line). IsRaceVerdict us c x) (sym z) (races_found us c main (ap main_of (sym s) ∙ starts) flags h')
