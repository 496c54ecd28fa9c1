-- The least line of all sentences.
use Rattle.std.proofs.Common.{◌≡◌, ℕ, suc, zero, ◌+◌, ◌<◌, ◌≤◌, ◌⊎◌, inl, inr, ⊎_elim, Bool, true, false, ◌||◌, Option, Some, None, List, [], ◌∷◌, ◌++◌, length, map, take, get_or, slice_get, refl, sym, ap, ◌∙◌, subst, arith}
use Rattle.std.specs.Prelude.{Contains, MatchOption, unwrap_or}
use Rattle.std.specs.FinMap.{empty}
use Rattle.std.proofs.lemmas.List.{length-append, length-take, length_push, take-append-drop}
use Rattle.std.proofs.lemmas.Option.{slice_get_within}
use Rattle.fm_base.specs.declared.name.Line.{Line}
use Rattle.fm_graph.specs.Graph.{IsComponents, Reaches}
use Rattle.fm_graph.proofs.Reach.{reach_edge}
use Rattle.fm_tree.specs.declared.program_unit.Entry.{Entry}
use Rattle.fm_rules.specs.declared.program.Program.{Program}
use Rattle.fm_rules.proofs.Lists.{at_head, behind_head, head_or_behind, not_in_none, some_same}
use Rattle.fm_call_graph.specs.Least.{lower_if}
use Rattle.fm_call_graph.proofs.Lowest.{IsLowest, lowest_same}
use Rattle.fm_mean.specs.Names.{ProgramUnit, main_number, unit_at}
use Rattle.fm_mean.proofs.MainUnit.{main_there}
use Rattle.fm_flow_law.specs.Cycles.{IsOnCycle}
use Rattle.fm_flow_law.specs.Flow.{DeclaresWidePort, IsEntryAt, IsFirstRisk, IsFlowSafe, IsFlowVerdict, IsRisk, IsRiskIn, IsRiskyCall, again, any_processes, channel_ports, edges, foreign, given, keeps, makes, ring, risky, shared, wide}
use Rattle.fm_flow.specs.Arcs.{graph_by, is_together}
use Rattle.fm_flow.specs.Units.{TellsRisks}
use Rattle.fm_flow.specs.Walks.{IsPortSearch, IsRingSearch, body_arcs, foreign_from, leads_back, no_flags, ports_from, rings_from, risky_from, sent_from, shared_from, wide_from, wires}
use Rattle.fm_flow.proofs.Cycles.{from_cycle, to_cycle}
use Rattle.fm_flow.proofs.Declared.{wide_found}
use Rattle.fm_flow.proofs.Edges.{graph_length}
use Rattle.fm_flow.proofs.PortPlaces.{ports_of}
use Rattle.fm_flow.proofs.Risks.{AreTogether, together_told, told_together}
use Rattle.fm_flow.proofs.Judged.{HasEntry, IsForeignBy, IsRiskyBy, IsSharedBy, Met, all_sent, foreign_next, foreign_right, foreign_test, foreign_walk, from_entry, gives_again, keeps_one, makes_more, none_met, risky_next, risky_right, risky_test, risky_walk, shared_next, shared_right, shared_test, shared_walk, to_entry}
use Rattle.fm_flow.proofs.Walked.{HasOne, IsRight, has_one, lowest_walk, walk}
use Rattle.fm_flow.proofs.Wired.{HasAt, entries, has_row, ins, is_wired, outs, row_has, sent, sent_by, variables}

-- the entry behind those before it
at_next : (before rest : List Entry) (e : Entry) → slice_get (before ++ e ∷ rest) (length before) ≡ Some e
at_next [] rest e = refl
at_next (d ∷ before) rest e = at_next before rest e

module _ (u : ProgramUnit) where
  abbrev body : List Entry
  body = u.tree.body

  -- ---- rings

  module _ (names : List ℕ) (components : IsComponents (wires u) names) where
    abbrev ring_test : ℕ → Entry → Bool
    ring_test k e = leads_back names (length body) k (given u e.stmt)

    abbrev ring_next : ℕ → Entry → ℕ
    ring_next k e = k + 1

    abbrev IsRingBy : List Entry → Entry → Type 0
    IsRingBy before e = IsOnCycle (edges u) (length before)

    ring_walk : (k : ℕ) (best : Option Line) (es : List Entry) → rings_from u names (length body) k best es ≡ walk ring_test ring_next k best es
    ring_walk k best [] = refl
    ring_walk k best (e ∷ es) = ring_walk (ring_next k e) (lower_if (ring_test k e) best e.line) es

    -- one of the ports leads back
    record LeadsBack (k : ℕ) (ps : List ℕ) : Type 0 where
      port : ℕ
      has : Contains ps port
      back : is_together names k (length body + port) ≡ true

    back_told : (k : ℕ) (ps : List ℕ) → leads_back names (length body) k ps ≡ true → LeadsBack k ps
    back_told k [] t = absurd (cc t)
    back_told k (p ∷ ps) t = go (is_together names k (length body + p)) refl t (λ r. back_told k ps r)
      where
        later : LeadsBack k ps → LeadsBack k (p ∷ ps)
        later h = record { port = h.port; has = behind_head p h.port ps h.has; back = h.back }

        go : (b : Bool) → is_together names k (length body + p) ≡ b → (b || leads_back names (length body) k ps) ≡ true → (leads_back names (length body) k ps ≡ true → LeadsBack k ps) → LeadsBack k (p ∷ ps)
        go true is r on = record { port = p; has = at_head p ps; back = is }
        go false is r on = later (on r)

    told_back : (k : ℕ) (ps : List ℕ) (p : ℕ) → Contains ps p → is_together names k (length body + p) ≡ true → leads_back names (length body) k ps ≡ true
    told_back k [] p c t = absurd (not_in_none p c)
    told_back k (q ∷ ps) p c t =
        ⊎_elim (λ (same : q ≡ p). or_first (is_together names k (length body + q)) (leads_back names (length body) k ps) (ap (λ (x : ℕ). is_together names k (length body + x)) same ∙ t))
        (λ (d : Contains ps p). or_later (is_together names k (length body + q)) (leads_back names (length body) k ps) (told_back k ps p d t)) (head_or_behind q p ps c)
      where
        or_later : (a b : Bool) → b ≡ true → (a || b) ≡ true
        or_later true b e = refl
        or_later false b e = e

        or_first : (a b : Bool) → a ≡ true → (a || b) ≡ true
        or_first true b e = refl
        or_first false b e = absurd (cc e)

    long : length (wires u) ≡ length body + ports_of u + ports_of u
    long = graph_length (length body + ports_of u + ports_of u) (body_arcs u (length body) (length body + ports_of u) 0 body)

    ring_sound : (k : ℕ) (e : Entry) → slice_get body k ≡ Some e → ring_test k e ≡ true → IsOnCycle (edges u) k
    ring_sound k e there t =
        let h = back_told k (given u e.stmt) t in
        let s = together_told names k (length body + h.port) h.back in
        let l = long in
        let z = components.sized in
        let both = (components.apart k (length body + h.port) (omega (arith, z, s.left)) (omega (arith, z, s.right))).0 s.same in
        to_cycle (sent u) (outs u) (ins u) (entries u) (variables u) (edges u) (wires u) (is_wired u) k h.port (has_row (sent_by u) body k h.port (record { entry = e; there = there; has = h.has })) both.1

    ring_whole : (k : ℕ) (e : Entry) → slice_get body k ≡ Some e → IsOnCycle (edges u) k → ring_test k e ≡ true
    ring_whole k e there cycle =
        let way = from_cycle (sent u) (outs u) (ins u) (entries u) (variables u) (edges u) (wires u) (is_wired u) k cycle in
        let w = is_wired u in
        let h = row_has (sent_by u) body k way.0 way.1 in
        let same : h.entry ≡ e = some_same h.entry e (sym h.there ∙ there) in
        let less = w.sent_below k way.0 way.1 in
        let inside = slice_get_within body k e there in
        let l = long in
        let z = components.sized in
        let to = reach_edge (wires u) k (length body + way.0) (w.sends k way.0 way.1) in
        told_back k (given u e.stmt) way.0 (subst (λ (x : Entry). Contains (given u x.stmt) way.0) same h.has)
        (told_together names k (length body + way.0) (record {
          left = omega (arith, z, l, inside);
          right = omega (arith, z, l, less);
          same = (components.apart k (length body + way.0) (omega (arith, l, inside)) (omega (arith, l, less))).1 (to, way.2);
        }))

    ring_right : IsRight body ring_test ring_next IsRingBy (λ before k. k ≡ length before)
    ring_right = record {
      more = λ before e k knows. let n = length_push before e in omega (arith, knows, n);
      sound = λ before rest e k is knows t. ring_sound (length before) e (subst (λ (es : List Entry). slice_get es (length before) ≡ Some e) is (at_next before rest e)) (subst (λ (n : ℕ). ring_test n e ≡ true) knows t);
      whole = λ before rest e k is knows c. subst (λ (n : ℕ). ring_test n e ≡ true) (sym knows) (ring_whole (length before) e (subst (λ (es : List Entry). slice_get es (length before) ≡ Some e) is (at_next before rest e)) c);
    }

  -- ---- all sentences

  module _ (p : Program) (risks : List Bool) (tells : TellsRisks p risks) (names : List ℕ) (components : IsComponents (wires u) names) where
    abbrev AtForeign : ℕ → Type 0
    AtForeign line = DeclaresWidePort u line ⊎ HasOne IsForeignBy [] body line

    abbrev AtShared : ℕ → Type 0
    AtShared line = AtForeign line ⊎ HasOne (IsSharedBy u) [] body line

    abbrev AtRisky : ℕ → Type 0
    AtRisky line = AtShared line ⊎ HasOne (IsRiskyBy u p risks tells) [] body line

    abbrev AtRing : ℕ → Type 0
    AtRing line = AtRisky line ⊎ HasOne (IsRingBy names components) [] body line

    abbrev after_wide : Option Line
    after_wide = wide_from (ports_from empty u.names.variables) None u.tree.specs

    abbrev after_foreign : Option Line
    after_foreign = foreign_from false after_wide body

    abbrev sends : List Bool
    sends = sent_from u (no_flags u) body

    abbrev after_shared : Option Line
    after_shared = shared_from u sends (no_flags u) after_foreign body

    abbrev after_risky : Option Line
    after_risky = risky_from p u risks (no_flags u) after_shared body

    abbrev after_rings : Option Line
    after_rings = rings_from u names (length body) 0 after_risky body

    foreign_lowest : IsLowest AtForeign after_foreign
    foreign_lowest =
        subst (IsLowest AtForeign) (sym (foreign_walk false after_wide body))
        (lowest_walk body foreign_test foreign_next IsForeignBy (λ before met. met ≡ any_processes before) (foreign_right body) (DeclaresWidePort u) [] body false after_wide refl refl (wide_found u))

    shared_lowest : IsLowest AtShared after_shared
    shared_lowest =
        subst (IsLowest AtShared) (sym (shared_walk u sends (no_flags u) after_foreign body))
        (lowest_walk body (shared_test u sends) (shared_next u) (IsSharedBy u) (Met u (channel_ports u)) (shared_right u sends (all_sent u)) AtForeign [] body (no_flags u) after_foreign refl (none_met u (channel_ports u)) foreign_lowest)

    risky_lowest : IsLowest AtRisky after_risky
    risky_lowest =
        subst (IsLowest AtRisky) (sym (risky_walk u p risks tells (no_flags u) after_shared body))
        (lowest_walk body (risky_test u p risks tells) (risky_next u p risks tells) (IsRiskyBy u p risks tells) (Met u (given u)) (risky_right u p risks tells) AtShared [] body (no_flags u) after_shared refl (none_met u (given u)) shared_lowest)

    rings_lowest : IsLowest AtRing after_rings
    rings_lowest =
        subst (IsLowest AtRing) (sym (ring_walk names components 0 after_risky body))
        (lowest_walk body (ring_test names components) (ring_next names components) (IsRingBy names components) (λ before k. k ≡ length before) (ring_right names components) AtRisky [] body 0 after_risky refl refl risky_lowest)

    -- a place among those before it
    taken : (k : ℕ) (e : Entry) → slice_get body k ≡ Some e → length (take k body) ≡ k
    taken k e there = let less = slice_get_within body k e there in let n = length-take k body in omega (arith, less, n)

    to_risk : (line : ℕ) → AtRing line → IsRiskIn p u line
    to_risk line (inl (inl (inl (inl d)))) = wide d
    to_risk line (inl (inl (inl (inr h)))) = let e = to_entry u IsForeignBy line h in foreign (e.place, e.entry, e.at, e.counts)
    to_risk line (inl (inl (inr h))) = let e = to_entry u (IsSharedBy u) line h in shared (e.place, e.entry, e.at, e.counts)
    to_risk line (inl (inr h)) = let e = to_entry u (IsRiskyBy u p risks tells) line h in risky (e.place, e.entry, e.at, by e.place e.entry e.counts)
      where
        by : (k : ℕ) (e : Entry) → IsRiskyBy u p risks tells (take k body) e → IsRiskyCall p u k e
        by k e (gives_again t) = again t
        by k e (keeps_one v is t) = keeps v is t
        by k e (makes_more v is m) = makes v is m
    to_risk line (inr h) =
        let e = to_entry u (IsRingBy names components) line h in
        ring (e.place, e.entry, e.at, subst (IsOnCycle (edges u)) (taken e.place e.entry e.at.there) e.counts)

    from_risk : (line : ℕ) → IsRiskIn p u line → AtRing line
    from_risk line (wide d) = inl (inl (inl (inl d)))
    from_risk line (foreign h) = inl (inl (inl (inr (from_entry u IsForeignBy line (record { place = h.0; entry = h.1; at = h.2; counts = h.3 })))))
    from_risk line (shared h) = inl (inl (inr (from_entry u (IsSharedBy u) line (record { place = h.0; entry = h.1; at = h.2; counts = h.3 }))))
    from_risk line (risky h) = inl (inr (from_entry u (IsRiskyBy u p risks tells) line (record { place = h.0; entry = h.1; at = h.2; counts = by h.0 h.1 h.3 })))
      where
        by : (k : ℕ) (e : Entry) → IsRiskyCall p u k e → IsRiskyBy u p risks tells (take k body) e
        by k e (again t) = gives_again t
        by k e (keeps v is t) = keeps_one v is t
        by k e (makes v is m) = makes_more v is m
    from_risk line (ring h) = inr (from_entry u (IsRingBy names components) line (record { place = h.0; entry = h.1; at = h.2; counts = subst (IsOnCycle (edges u)) (sym (taken h.0 h.1 h.2.there)) h.3 }))

    module _ (m : ℕ) (is_main : main_number p ≡ Some m) (here : unit_at p m ≡ Some u) where
      to_whole : (line : ℕ) → AtRing line → IsRisk p line
      to_whole line h = record { main = m; unit = u; starts = is_main; there = here; risk = to_risk line h }

      from_whole : (line : ℕ) → IsRisk p line → AtRing line
      from_whole line r =
          let same : r.main ≡ m = some_same r.main m (sym r.starts ∙ is_main) in
          let unit : r.unit ≡ u = some_same r.unit u (sym r.there ∙ ap (unit_at p) same ∙ here) in
          from_risk line (subst (λ (v : ProgramUnit). IsRiskIn p v line) unit r.risk)

      verdict : (line : Option Line) → IsLowest (IsRisk p) line → IsFlowVerdict p line
      verdict None h = h
      verdict (Some b) h = record { risk = h.here; least = h.least }

      pub all_found : IsFlowVerdict p after_rings
      all_found = verdict after_rings (lowest_same AtRing (IsRisk p) to_whole from_whole after_rings rings_lowest)

-- the same, as the code comes to it
pub flow_found : (p : Program) (m : ℕ) (u : ProgramUnit) (widest strange ported line : Option Line) → main_number p ≡ Some m → unit_at p m ≡ Some u
    → widest ≡ wide_from (ports_from empty u.names.variables) None u.tree.specs → strange ≡ foreign_from false widest u.tree.body → IsPortSearch p u strange ported → IsRingSearch u ported line → IsFlowVerdict p line
flow_found p m u widest strange ported line is_main here w s ports rings =
    let strange_is : strange ≡ foreign_from false (wide_from (ports_from empty u.names.variables) None u.tree.specs) u.tree.body = s ∙ ap (λ (x : Option Line). foreign_from false x u.tree.body) w in
    let ported_is : ported ≡ risky_from p u ports.risks (no_flags u) (shared_from u (sent_from u (no_flags u) u.tree.body) (no_flags u) (foreign_from false (wide_from (ports_from empty u.names.variables) None u.tree.specs) u.tree.body) u.tree.body) u.tree.body =
    ports.is ∙ ap (λ (x : Option Line). risky_from p u ports.risks (no_flags u) (shared_from u (sent_from u (no_flags u) u.tree.body) (no_flags u) x u.tree.body) u.tree.body) strange_is in
    let line_is = rings.is ∙ ap (λ (x : Option Line). rings_from u rings.names (length u.tree.body) 0 x u.tree.body) ported_is in
    subst (IsFlowVerdict p) (sym line_is) (all_found u p ports.risks ports.told rings.names rings.told m is_main here)

-- ---- the PROGRAM

pub main_is : (p : Program) (n : ℕ) → n ≡ unwrap_or (main_number p) 0 → main_number p ≡ Some n
main_is p n e = let m = main_there p in m.is ∙ ap (λ (k : ℕ). Some k) (sym (e ∙ ap (λ (o : Option ℕ). unwrap_or o 0) m.is))

pub no_main : (X : Type 0) (p : Program) (n : ℕ) → n ≡ unwrap_or (main_number p) 0 → unit_at p n ≡ None → X
no_main X p n e none = let m = main_there p in absurd (nothing m.unit (sym none ∙ ap (unit_at p) (e ∙ ap (λ (o : Option ℕ). unwrap_or o 0) m.is) ∙ m.here))
  where
    nothing : (u : ProgramUnit) → None ≡ Some u → ⊥
    nothing u e = absurd (cc)
