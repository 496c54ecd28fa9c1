-- The edges of the check are those by which ports go, and where the check finds no cycle they have none.
use Rattle.std.proofs.Common.{◌≡◌, ℕ, zero, suc, ◌+◌, Bool, true, false, cond, ◌&&◌, ◌||◌, Some, List, [], ◌∷◌, map, slice_get, refl, sym, ap, ◌∙◌, subst, arith}
use Rattle.std.specs.Prelude.{Contains, slice_index_or}
use Rattle.std.proofs.lemmas.List.Elements.{Contains-append_left, Contains-append_right}
use Rattle.fm_base.specs.declared.path.ChanName.{ChanName}
use Rattle.fm_rules.proofs.Lists.{at_head}
use Rattle.fm_tree.specs.declared.program_unit.Entry.{Entry}
use Rattle.fm_rules.specs.declared.program.Program.{Program}
use Rattle.fm_mean.specs.Names.{ProgramUnit, unit_at, main_number}
use Rattle.fm_mean.specs.Steps.{language}
use Rattle.fm_flow_law.specs.Cycles.{IsAcyclic}
use Rattle.fm_flow_law.specs.Flow.{given, channel_in, channel_out, any_among, joins, ends_from, edges, IsFlowSafe, ring}
use Rattle.fm_flow_law.specs.Pipes.{AreEdges}
use Rattle.fm_flow_law.specs.Ports.{GivesOut, GivesIn}

the_one : {X : Type 0} (x y : X) → Some x ≡ Some y → x ≡ y
the_one x y e = cc

or_first : (a b : Bool) → a ≡ true → (a || b) ≡ true
or_first true b e = refl
or_first false b e = absurd (cc e)

or_second : (a b : Bool) → b ≡ true → (a || b) ≡ true
or_second true b e = refl
or_second false b e = e

and_both : (a b : Bool) → a ≡ true → b ≡ true → (a && b) ≡ true
and_both true b e f = f
and_both false b e f = absurd (cc e)

module _ (u : ProgramUnit) where
  joined : (froms tos : List ℕ) (es : List Entry) (k : ℕ) (ch : Entry) → slice_get es k ≡ Some ch → any_among (channel_out u ch.stmt) froms ≡ true → any_among (channel_in u ch.stmt) tos ≡ true → joins u froms tos es ≡ true
  joined froms tos [] k ch is a b = absurd (cc is)
  joined froms tos (e ∷ es) zero ch is a b =
      or_first (any_among (channel_out u e.stmt) froms && any_among (channel_in u e.stmt) tos) (joins u froms tos es)
      (subst (λ (x : Entry). (any_among (channel_out u x.stmt) froms && any_among (channel_in u x.stmt) tos) ≡ true) (sym (the_one e ch is)) (and_both (any_among (channel_out u ch.stmt) froms) (any_among (channel_in u ch.stmt) tos) a b))
  joined froms tos (e ∷ es) (suc k) ch is a b =
      or_second (any_among (channel_out u e.stmt) froms && any_among (channel_in u e.stmt) tos) (joins u froms tos es) (joined froms tos es k ch is a b)

  listed : (froms : List ℕ) (i : ℕ) (es : List Entry) (k : ℕ) (e : Entry) → slice_get es k ≡ Some e → joins u froms (given u e.stmt) u.tree.body ≡ true → Contains (ends_from u froms i es) (k + i)
  listed froms i [] k e is h = absurd (cc is)
  listed froms i (x ∷ xs) zero e is h =
      let here : cond (joins u froms (given u x.stmt) u.tree.body) (i ∷ []) [] ≡ i ∷ [] =
      ap (λ b. cond b (i ∷ []) []) (ap (λ (y : Entry). joins u froms (given u y.stmt) u.tree.body) (the_one x e is) ∙ h) in
      let found = Contains-append_left (cond (joins u froms (given u x.stmt) u.tree.body) (i ∷ []) []) (ends_from u froms (suc i) xs) i (subst (λ l. Contains l i) (sym here) (at_head i [])) in
      let same : i ≡ 0 + i = omega arith in
      subst (Contains (ends_from u froms i (x ∷ xs))) same found
  listed froms i (x ∷ xs) (suc k) e is h =
      let later = listed froms (suc i) xs k e is h in
      let same : k + suc i ≡ suc k + i = omega arith in
      Contains-append_right (cond (joins u froms (given u x.stmt) u.tree.body) (i ∷ []) []) (ends_from u froms (suc i) xs) (suc k + i) (subst (Contains (ends_from u froms (suc i) xs)) same later)

  row : (f : Entry → List ℕ) (es : List Entry) (k : ℕ) (e : Entry) → slice_get es k ≡ Some e → slice_index_or (map f es) k [] ≡ f e
  row f [] k e is = absurd (cc is)
  row f (x ∷ xs) zero e is = ap f (the_one x e is)
  row f (x ∷ xs) (suc k) e is = row f xs k e is

  -- a channel from one call to another is an edge
  pub gives_edges : (p : Program) (labels : ChanName → ℕ) → AreEdges (language p) (edges u) (GivesOut u labels) (GivesIn u labels)
  gives_edges p labels a b c out has_in =
      let same : has_in.channel ≡ out.channel = the_one has_in.channel out.channel (sym has_in.made ∙ out.made) in
      let ins = subst (λ (x : Entry). any_among (channel_in u x.stmt) (given u has_in.call.stmt) ≡ true) same has_in.gives in
      let way = joined (given u out.call.stmt) (given u has_in.call.stmt) u.tree.body (labels c) out.channel out.made out.gives ins in
      let found = listed (given u out.call.stmt) 0 u.tree.body b has_in.call has_in.there way in
      let zero_more : b + 0 ≡ b = omega arith in
      subst (λ l. Contains l b) (sym (row (λ (e : Entry). ends_from u (given u e.stmt) 0 u.tree.body) u.tree.body a out.call out.there)) (subst (Contains (ends_from u (given u out.call.stmt) 0 u.tree.body)) zero_more found)

  edge_entry : (f : Entry → List ℕ) (es : List Entry) (k v : ℕ) → Contains (slice_index_or (map f es) k []) v → (e : Entry) × (slice_get es k ≡ Some e)
  edge_entry f [] k v h = absurd (omega (arith, h.1))
  edge_entry f (x ∷ xs) zero v h = (x, refl)
  edge_entry f (x ∷ xs) (suc k) v h = edge_entry f xs k v h

-- a safe program has no cycle
pub safe_acyclic : (p : Program) (m : ℕ) (u : ProgramUnit) → main_number p ≡ Some m → unit_at p m ≡ Some u → IsFlowSafe p → IsAcyclic (edges u)
safe_acyclic p m u main there safe k cycle =
    let e = edge_entry u (λ (e : Entry). ends_from u (given u e.stmt) 0 u.tree.body) u.tree.body k cycle.0 cycle.1 in
    safe e.0.line.0 (record { main = m; unit = u; starts = main; there = there; risk = ring (k, e.0, record { there = e.1; same = refl }, cycle) })
