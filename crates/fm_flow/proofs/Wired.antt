-- The graph of calls, ports and channels of a body.
use Rattle.std.proofs.Common.{◌≡◌, ℕ, suc, zero, ◌+◌, ◌<◌, ◌≤◌, ◌⊎◌, inl, inr, ⊎_elim, Bool, true, false, cond, ◌||◌, ◌&&◌, Option, Some, None, List, [], ◌∷◌, ◌++◌, length, map, get_or, slice_get, refl, sym, ap, ◌∙◌, subst, append_assoc, arith}
use Rattle.std.specs.Prelude.{Contains}
use Rattle.std.proofs.lemmas.List.Elements.{Contains-append_cases, Contains-append_left, Contains-append_right}
use Rattle.std.proofs.lemmas.Option.{slice_get_within}
use Rattle.fm_graph.specs.Graph.{IsEdge}
use Rattle.fm_tree.specs.declared.program_unit.Entry.{Entry}
use Rattle.fm_tree.specs.declared.statement.Stmt.{Stmt}
use Rattle.fm_rules.proofs.Lists.{at_head, behind_head, head_or_behind, not_in_none, some_same}
use Rattle.fm_mean.specs.Names.{ProgramUnit}
use Rattle.fm_flow_law.specs.Flow.{any_among, channel_in, channel_out, edges, ends_from, given, joins}
use Rattle.fm_flow.specs.Walks.{arcs_back, arcs_to, body_arcs, entry_arcs, wires}
use Rattle.fm_flow.proofs.Cycles.{IsPipe, IsWired, LeadsFrom, to_in, to_out}
use Rattle.fm_flow.proofs.Edges.{arc_edge, edge_arc}
use Rattle.fm_flow.proofs.PortPlaces.{IsShared, any_shared, below_in, given_below, gives_no_in, gives_no_out, in_port_below, out_port_below, ports_of, shared_any}

-- ---- a list for each entry

-- what a list of the entry at a place has
pub record HasAt (f : Entry → List ℕ) (es : List Entry) (k x : ℕ) : Type 0 where
  pub entry : Entry
  pub there : slice_get es k ≡ Some entry
  pub has : Contains (f entry) x

pub row_is : (f : Entry → List ℕ) (es : List Entry) (k : ℕ) (e : Entry) → slice_get es k ≡ Some e → get_or (map f es) k [] ≡ f e
row_is f [] k e is = absurd (cc is)
row_is f (x ∷ es) zero e is = ap f (some_same x e is)
row_is f (x ∷ es) (suc k) e is = row_is f es k e is

pub row_has : (f : Entry → List ℕ) (es : List Entry) (k x : ℕ) → Contains (get_or (map f es) k []) x → HasAt f es k x
row_has f [] k x c = absurd (not_in_none x c)
row_has f (e ∷ es) zero x c = record { entry = e; there = refl; has = c }
row_has f (e ∷ es) (suc k) x c = let h = row_has f es k x c in record { entry = h.entry; there = h.there; has = h.has }

pub has_row : (f : Entry → List ℕ) (es : List Entry) (k x : ℕ) → HasAt f es k x → Contains (get_or (map f es) k []) x
has_row f es k x h = subst (λ (l : List ℕ). Contains l x) (sym (row_is f es k h.entry h.there)) h.has

-- ---- arcs of one entry

data IsArcTo (base node : ℕ) (ps : List ℕ) (x y : ℕ) : Type 0 where
  arc_to : (p : ℕ) → Contains ps p → x ≡ node → y ≡ base + p → IsArcTo base node ps x y

data IsArcBack (base node : ℕ) (ps : List ℕ) (x y : ℕ) : Type 0 where
  arc_back : (p : ℕ) → Contains ps p → x ≡ base + p → y ≡ node → IsArcBack base node ps x y

first_same : (a b : ℕ × ℕ) → a ≡ b → b.0 ≡ a.0
first_same a b e = sym (ap (λ (c : ℕ × ℕ). c.0) e)

second_same : (a b : ℕ × ℕ) → a ≡ b → b.1 ≡ a.1
second_same a b e = sym (ap (λ (c : ℕ × ℕ). c.1) e)

is_arc_to : (base node : ℕ) (ps : List ℕ) (x y : ℕ) → Contains (arcs_to base node ps) (x, y) → IsArcTo base node ps x y
is_arc_to base node [] x y c = absurd (not_in_none (x, y) c)
is_arc_to base node (p ∷ ps) x y c =
    ⊎_elim (λ (e : (node, base + p) ≡ (x, y)). arc_to p (at_head p ps) (first_same (node, base + p) (x, y) e) (second_same (node, base + p) (x, y) e))
    (λ (d : Contains (arcs_to base node ps) (x, y)). later (is_arc_to base node ps x y d)) (head_or_behind (node, base + p) (x, y) (arcs_to base node ps) c)
  where
    later : IsArcTo base node ps x y → IsArcTo base node (p ∷ ps) x y
    later (arc_to q d e f) = arc_to q (behind_head p q ps d) e f

is_arc_back : (base node : ℕ) (ps : List ℕ) (x y : ℕ) → Contains (arcs_back base node ps) (x, y) → IsArcBack base node ps x y
is_arc_back base node [] x y c = absurd (not_in_none (x, y) c)
is_arc_back base node (p ∷ ps) x y c =
    ⊎_elim (λ (e : (base + p, node) ≡ (x, y)). arc_back p (at_head p ps) (first_same (base + p, node) (x, y) e) (second_same (base + p, node) (x, y) e))
    (λ (d : Contains (arcs_back base node ps) (x, y)). later (is_arc_back base node ps x y d)) (head_or_behind (base + p, node) (x, y) (arcs_back base node ps) c)
  where
    later : IsArcBack base node ps x y → IsArcBack base node (p ∷ ps) x y
    later (arc_back q d e f) = arc_back q (behind_head p q ps d) e f

to_there : (base node : ℕ) (ps : List ℕ) (p : ℕ) → Contains ps p → Contains (arcs_to base node ps) (node, base + p)
to_there base node [] p c = absurd (not_in_none p c)
to_there base node (q ∷ ps) p c =
    ⊎_elim (λ (e : q ≡ p). subst (λ (r : ℕ). Contains (arcs_to base node (q ∷ ps)) (node, base + r)) e (at_head (node, base + q) (arcs_to base node ps)))
    (λ (d : Contains ps p). behind_head (node, base + q) (node, base + p) (arcs_to base node ps) (to_there base node ps p d)) (head_or_behind q p ps c)

back_there : (base node : ℕ) (ps : List ℕ) (p : ℕ) → Contains ps p → Contains (arcs_back base node ps) (base + p, node)
back_there base node [] p c = absurd (not_in_none p c)
back_there base node (q ∷ ps) p c =
    ⊎_elim (λ (e : q ≡ p). subst (λ (r : ℕ). Contains (arcs_back base node (q ∷ ps)) (base + r, node)) e (at_head (base + q, node) (arcs_back base node ps)))
    (λ (d : Contains ps p). behind_head (base + q, node) (base + p, node) (arcs_back base node ps) (back_there base node ps p d)) (head_or_behind q p ps c)

-- ---- channels between calls

module _ (u : ProgramUnit) where
  abbrev body : List Entry
  body = u.tree.body

  -- a CHANNEL with an outport of the first and an inport of the second
  record IsJoined (froms tos : List ℕ) (es : List Entry) : Type 0 where
    place : ℕ
    channel : Entry
    there : slice_get es place ≡ Some channel
    out_meets : any_among (channel_out u channel.stmt) froms ≡ true
    in_meets : any_among (channel_in u channel.stmt) tos ≡ true

  and_first : (a b : Bool) → (a && b) ≡ true → a ≡ true
  and_first true b e = refl
  and_first false b e = absurd (cc e)

  and_second : (a b : Bool) → (a && b) ≡ true → b ≡ true
  and_second true b e = e
  and_second false b e = absurd (cc e)

  and_both : (a b : Bool) → a ≡ true → b ≡ true → (a && b) ≡ true
  and_both true b e f = f
  and_both false b e f = absurd (cc e)

  or_first : (a b : Bool) → a ≡ true → (a || b) ≡ true
  or_first true b e = refl
  or_first false b e = absurd (cc e)

  or_second : (a b : Bool) → b ≡ true → (a || b) ≡ true
  or_second true b e = refl
  or_second false b e = e

  abbrev joins_here : (froms tos : List ℕ) → Entry → Bool
  joins_here froms tos e = any_among (channel_out u e.stmt) froms && any_among (channel_in u e.stmt) tos

  is_joined : (froms tos : List ℕ) (es : List Entry) → joins u froms tos es ≡ true → IsJoined froms tos es
  is_joined froms tos [] t = absurd (cc t)
  is_joined froms tos (e ∷ es) t = go (joins_here froms tos e) refl t (λ r. is_joined froms tos es r)
    where
      later : IsJoined froms tos es → IsJoined froms tos (e ∷ es)
      later h = record { place = suc h.place; channel = h.channel; there = h.there; out_meets = h.out_meets; in_meets = h.in_meets }

      go : (b : Bool) → joins_here froms tos e ≡ b → (b || joins u froms tos es) ≡ true → (joins u froms tos es ≡ true → IsJoined froms tos es) → IsJoined froms tos (e ∷ es)
      go true is r on = record { place = 0; channel = e; there = refl; out_meets = and_first (any_among (channel_out u e.stmt) froms) (any_among (channel_in u e.stmt) tos) is; in_meets = and_second (any_among (channel_out u e.stmt) froms) (any_among (channel_in u e.stmt) tos) is }
      go false is r on = later (on r)

  joined_is : (froms tos : List ℕ) (es : List Entry) (k : ℕ) (c : Entry) → slice_get es k ≡ Some c → joins_here froms tos c ≡ true → joins u froms tos es ≡ true
  joined_is froms tos [] k c is t = absurd (cc is)
  joined_is froms tos (e ∷ es) zero c is t = or_first (joins_here froms tos e) (joins u froms tos es) (ap (joins_here froms tos) (some_same e c is) ∙ t)
  joined_is froms tos (e ∷ es) (suc k) c is t = or_second (joins_here froms tos e) (joins u froms tos es) (joined_is froms tos es k c is t)

  -- the entry at the end of an edge
  record IsEnd (froms : List ℕ) (i : ℕ) (es : List Entry) (b : ℕ) : Type 0 where
    at : ℕ
    is : b ≡ i + at
    entry : Entry
    there : slice_get es at ≡ Some entry
    joined : joins u froms (given u entry.stmt) body ≡ true

  is_end : (froms : List ℕ) (i : ℕ) (es : List Entry) (b : ℕ) → Contains (ends_from u froms i es) b → IsEnd froms i es b
  is_end froms i [] b c = absurd (not_in_none b c)
  is_end froms i (e ∷ es) b c =
      ⊎_elim (λ (d : Contains (cond (joins u froms (given u e.stmt) body) (i ∷ []) []) b). here (joins u froms (given u e.stmt) body) refl d)
      (λ (d : Contains (ends_from u froms (suc i) es) b). later (is_end froms (suc i) es b d)) (Contains-append_cases (cond (joins u froms (given u e.stmt) body) (i ∷ []) []) (ends_from u froms (suc i) es) b c)
    where
      here : (t : Bool) → joins u froms (given u e.stmt) body ≡ t → Contains (cond t (i ∷ []) []) b → IsEnd froms i (e ∷ es) b
      here true is d = ⊎_elim (λ (same : i ≡ b). record { at = 0; is = omega (arith, same); entry = e; there = refl; joined = is }) (λ (n : Contains [] b). absurd (not_in_none b n)) (head_or_behind i b [] d)
      here false is d = absurd (not_in_none b d)

      later : IsEnd froms (suc i) es b → IsEnd froms i (e ∷ es) b
      later h = record { at = suc h.at; is = omega (arith, h.is); entry = h.entry; there = h.there; joined = h.joined }

  end_is : (froms : List ℕ) (i : ℕ) (es : List Entry) (at b : ℕ) (d : Entry) → b ≡ i + at → slice_get es at ≡ Some d → joins u froms (given u d.stmt) body ≡ true → Contains (ends_from u froms i es) b
  end_is froms i [] at b d e is t = absurd (cc is)
  end_is froms i (x ∷ es) zero b d e is t =
      let same : i ≡ b = omega (arith, e) in
      let here : joins u froms (given u x.stmt) body ≡ true = ap (λ (y : Entry). joins u froms (given u y.stmt) body) (some_same x d is) ∙ t in
      Contains-append_left (cond (joins u froms (given u x.stmt) body) (i ∷ []) []) (ends_from u froms (suc i) es) b
      (subst (λ (k : ℕ). Contains (cond (joins u froms (given u x.stmt) body) (i ∷ []) []) k) same (subst (λ (y : Bool). Contains (cond y (i ∷ []) []) i) (sym here) (at_head i [])))
  end_is froms i (x ∷ es) (suc at) b d e is t =
      Contains-append_right (cond (joins u froms (given u x.stmt) body) (i ∷ []) []) (ends_from u froms (suc i) es) b (end_is froms (suc i) es at b d (omega (arith, e)) is t)

  -- ---- the three lists of an entry

  abbrev pub sent_by : Entry → List ℕ
  sent_by e = given u e.stmt

  abbrev pub outs_by : Entry → List ℕ
  outs_by e = channel_out u e.stmt

  abbrev pub ins_by : Entry → List ℕ
  ins_by e = channel_in u e.stmt

  abbrev pub sent : ℕ → List ℕ
  sent k = get_or (map sent_by body) k []

  abbrev pub outs : ℕ → List ℕ
  outs k = get_or (map outs_by body) k []

  abbrev pub ins : ℕ → List ℕ
  ins k = get_or (map ins_by body) k []

  abbrev ends : Entry → List ℕ
  ends e = ends_from u (given u e.stmt) 0 body

  pipe : (a b : ℕ) → IsEdge (edges u) a b → IsPipe sent outs ins a b
  pipe a b e =
      let from = row_has ends body a b e in
      let last = is_end (given u from.entry.stmt) 0 body b from.has in
      let join = is_joined (given u from.entry.stmt) (given u last.entry.stmt) body last.joined in
      let out = any_shared (channel_out u join.channel.stmt) (given u from.entry.stmt) join.out_meets in
      let in_port = any_shared (channel_in u join.channel.stmt) (given u last.entry.stmt) join.in_meets in
      let same : last.at ≡ b = omega (arith, last.is) in
      record {
        channel = join.place;
        out = out.one;
        in_port = in_port.one;
        has_out = has_row outs_by body join.place out.one (record { entry = join.channel; there = join.there; has = out.left });
        sent_out = has_row sent_by body a out.one (record { entry = from.entry; there = from.there; has = out.right });
        has_in = has_row ins_by body join.place in_port.one (record { entry = join.channel; there = join.there; has = in_port.left });
        sent_in = has_row sent_by body b in_port.one (record { entry = last.entry; there = subst (λ (k : ℕ). slice_get body k ≡ Some last.entry) same last.there; has = in_port.right });
      }

  piped : (a b : ℕ) → IsPipe sent outs ins a b → IsEdge (edges u) a b
  piped a b h =
      let from = row_has sent_by body a h.out h.sent_out in
      let last = row_has sent_by body b h.in_port h.sent_in in
      let out = row_has outs_by body h.channel h.out h.has_out in
      let in_port = row_has ins_by body h.channel h.in_port h.has_in in
      let same : in_port.entry ≡ out.entry = some_same in_port.entry out.entry (sym in_port.there ∙ out.there) in
      let has_in : Contains (channel_in u out.entry.stmt) h.in_port = subst (λ (x : Entry). Contains (channel_in u x.stmt) h.in_port) same in_port.has in
      let here = and_both (any_among (channel_out u out.entry.stmt) (given u from.entry.stmt)) (any_among (channel_in u out.entry.stmt) (given u last.entry.stmt))
      (shared_any (channel_out u out.entry.stmt) (given u from.entry.stmt) h.out out.has from.has) (shared_any (channel_in u out.entry.stmt) (given u last.entry.stmt) h.in_port has_in last.has) in
      let join = joined_is (given u from.entry.stmt) (given u last.entry.stmt) body h.channel out.entry out.there here in
      has_row ends body a b (record { entry = from.entry; there = from.there; has = end_is (given u from.entry.stmt) 0 body b b last.entry (omega arith) last.there join })

  -- ---- the arcs of the body

  data IsEntryArc (outs_at ins_at node : ℕ) (s : Stmt) (x y : ℕ) : Type 0 where
    sends : (p : ℕ) → Contains (given u s) p → x ≡ node → y ≡ outs_at + p → IsEntryArc outs_at ins_at node s x y
    gets : (p : ℕ) → Contains (given u s) p → x ≡ ins_at + p → y ≡ node → IsEntryArc outs_at ins_at node s x y
    opens : (p : ℕ) → Contains (channel_out u s) p → x ≡ outs_at + p → y ≡ node → IsEntryArc outs_at ins_at node s x y
    leads : (p : ℕ) → Contains (channel_in u s) p → x ≡ node → y ≡ ins_at + p → IsEntryArc outs_at ins_at node s x y

  module _ (outs_at ins_at node : ℕ) (s : Stmt) where
    abbrev first : List (ℕ × ℕ)
    first = arcs_to outs_at node (given u s)

    abbrev second : List (ℕ × ℕ)
    second = arcs_back ins_at node (given u s)

    abbrev third : List (ℕ × ℕ)
    third = arcs_back outs_at node (channel_out u s)

    abbrev fourth : List (ℕ × ℕ)
    fourth = arcs_to ins_at node (channel_in u s)

    four : entry_arcs u outs_at ins_at node s ≡ first ++ (second ++ (third ++ fourth))
    four = append_assoc (first ++ second) third fourth ∙ append_assoc first second (third ++ fourth)

    entry_arc : (x y : ℕ) → Contains (entry_arcs u outs_at ins_at node s) (x, y) → IsEntryArc outs_at ins_at node s x y
    entry_arc x y c =
        ⊎_elim (λ (d : Contains first (x, y)). by_first (is_arc_to outs_at node (given u s) x y d))
        (λ (d : Contains (second ++ (third ++ fourth)) (x, y)).
        ⊎_elim (λ (f : Contains second (x, y)). by_second (is_arc_back ins_at node (given u s) x y f))
        (λ (f : Contains (third ++ fourth) (x, y)).
        ⊎_elim (λ (g : Contains third (x, y)). by_third (is_arc_back outs_at node (channel_out u s) x y g)) (λ (g : Contains fourth (x, y)). by_fourth (is_arc_to ins_at node (channel_in u s) x y g)) (Contains-append_cases third fourth (x, y) f))
        (Contains-append_cases second (third ++ fourth) (x, y) d))
        (Contains-append_cases first (second ++ (third ++ fourth)) (x, y) (subst (λ (l : List (ℕ × ℕ)). Contains l (x, y)) four c))
      where
        by_first : IsArcTo outs_at node (given u s) x y → IsEntryArc outs_at ins_at node s x y
        by_first (arc_to p d e f) = sends p d e f

        by_second : IsArcBack ins_at node (given u s) x y → IsEntryArc outs_at ins_at node s x y
        by_second (arc_back p d e f) = gets p d e f

        by_third : IsArcBack outs_at node (channel_out u s) x y → IsEntryArc outs_at ins_at node s x y
        by_third (arc_back p d e f) = opens p d e f

        by_fourth : IsArcTo ins_at node (channel_in u s) x y → IsEntryArc outs_at ins_at node s x y
        by_fourth (arc_to p d e f) = leads p d e f

    sends_there : (p : ℕ) → Contains (given u s) p → Contains (entry_arcs u outs_at ins_at node s) (node, outs_at + p)
    sends_there p c =
        subst (λ (l : List (ℕ × ℕ)). Contains l (node, outs_at + p)) (sym four)
        (Contains-append_left first (second ++ (third ++ fourth)) (node, outs_at + p) (to_there outs_at node (given u s) p c))

    gets_there : (p : ℕ) → Contains (given u s) p → Contains (entry_arcs u outs_at ins_at node s) (ins_at + p, node)
    gets_there p c =
        subst (λ (l : List (ℕ × ℕ)). Contains l (ins_at + p, node)) (sym four)
        (Contains-append_right first (second ++ (third ++ fourth)) (ins_at + p, node)
        (Contains-append_left second (third ++ fourth) (ins_at + p, node) (back_there ins_at node (given u s) p c)))

    opens_there : (p : ℕ) → Contains (channel_out u s) p → Contains (entry_arcs u outs_at ins_at node s) (outs_at + p, node)
    opens_there p c =
        subst (λ (l : List (ℕ × ℕ)). Contains l (outs_at + p, node)) (sym four)
        (Contains-append_right first (second ++ (third ++ fourth)) (outs_at + p, node)
        (Contains-append_right second (third ++ fourth) (outs_at + p, node) (Contains-append_left third fourth (outs_at + p, node) (back_there outs_at node (channel_out u s) p c))))

    leads_there : (p : ℕ) → Contains (channel_in u s) p → Contains (entry_arcs u outs_at ins_at node s) (node, ins_at + p)
    leads_there p c =
        subst (λ (l : List (ℕ × ℕ)). Contains l (node, ins_at + p)) (sym four)
        (Contains-append_right first (second ++ (third ++ fourth)) (node, ins_at + p)
        (Contains-append_right second (third ++ fourth) (node, ins_at + p) (Contains-append_right third fourth (node, ins_at + p) (to_there ins_at node (channel_in u s) p c))))

  record IsBodyArc (outs_at ins_at node : ℕ) (es : List Entry) (x y : ℕ) : Type 0 where
    at : ℕ
    n : ℕ
    is : n ≡ node + at
    entry : Entry
    there : slice_get es at ≡ Some entry
    arc : Contains (entry_arcs u outs_at ins_at n entry.stmt) (x, y)

  body_arc : (outs_at ins_at node : ℕ) (es : List Entry) (x y : ℕ) → Contains (body_arcs u outs_at ins_at node es) (x, y) → IsBodyArc outs_at ins_at node es x y
  body_arc outs_at ins_at node [] x y c = absurd (not_in_none (x, y) c)
  body_arc outs_at ins_at node (e ∷ es) x y c =
      ⊎_elim (λ (d : Contains (entry_arcs u outs_at ins_at node e.stmt) (x, y)). record { at = 0; n = node; is = omega arith; entry = e; there = refl; arc = d })
      (λ (d : Contains (body_arcs u outs_at ins_at (node + 1) es) (x, y)). later (body_arc outs_at ins_at (node + 1) es x y d)) (Contains-append_cases (entry_arcs u outs_at ins_at node e.stmt) (body_arcs u outs_at ins_at (node + 1) es) (x, y) c)
    where
      later : IsBodyArc outs_at ins_at (node + 1) es x y → IsBodyArc outs_at ins_at node (e ∷ es) x y
      later h = record { at = suc h.at; n = h.n; is = omega (arith, h.is); entry = h.entry; there = h.there; arc = h.arc }

  arc_body : (outs_at ins_at node : ℕ) (es : List Entry) (at n : ℕ) (e : Entry) (arc : ℕ × ℕ) → n ≡ node + at → slice_get es at ≡ Some e → Contains (entry_arcs u outs_at ins_at n e.stmt) arc → Contains (body_arcs u outs_at ins_at node es) arc
  arc_body outs_at ins_at node [] at n e arc f is c = absurd (cc is)
  arc_body outs_at ins_at node (d ∷ es) zero n e arc f is c =
      let same : n ≡ node = omega (arith, f) in
      Contains-append_left (entry_arcs u outs_at ins_at node d.stmt) (body_arcs u outs_at ins_at (node + 1) es) arc
      (subst (λ (k : ℕ). Contains (entry_arcs u outs_at ins_at k d.stmt) arc) same (subst (λ (x : Entry). Contains (entry_arcs u outs_at ins_at n x.stmt) arc) (sym (some_same d e is)) c))
  arc_body outs_at ins_at node (d ∷ es) (suc at) n e arc f is c =
      Contains-append_right (entry_arcs u outs_at ins_at node d.stmt) (body_arcs u outs_at ins_at (node + 1) es) arc (arc_body outs_at ins_at (node + 1) es at n e arc (omega (arith, f)) is c)

  -- ---- the graph

  abbrev pub entries : ℕ
  entries = length body

  abbrev pub variables : ℕ
  variables = ports_of u

  abbrev nodes : ℕ
  nodes = entries + variables + variables

  abbrev arcs : List (ℕ × ℕ)
  arcs = body_arcs u entries (entries + variables) 0 body

  -- an edge is an arc of the entry at this place
  record IsArcOf (x y : ℕ) : Type 0 where
    place : ℕ
    entry : Entry
    there : slice_get body place ≡ Some entry
    within : place < entries
    arc : IsEntryArc entries (entries + variables) place entry.stmt x y

  arc_of : (x y : ℕ) → IsEdge (wires u) x y → IsArcOf x y
  arc_of x y e =
      let h = body_arc entries (entries + variables) 0 body x y (edge_arc nodes arcs x y e) in
      let same : h.at ≡ h.n = omega (arith, h.is) in
      let there = subst (λ (k : ℕ). slice_get body k ≡ Some h.entry) same h.there in
      record { place = h.n; entry = h.entry; there = there; within = slice_get_within body h.n h.entry there; arc = entry_arc entries (entries + variables) h.n h.entry.stmt x y h.arc }

  edge_of : (place x y : ℕ) (e : Entry) → slice_get body place ≡ Some e → Contains (entry_arcs u entries (entries + variables) place e.stmt) (x, y) → x < nodes → IsEdge (wires u) x y
  edge_of place x y e there c less = arc_edge nodes arcs x y (arc_body entries (entries + variables) 0 body place place e (x, y) (omega arith) there c) less

  from_entry : (x y : ℕ) → x < entries → IsEdge (wires u) x y → LeadsFrom sent ins entries (entries + variables) x y
  from_entry x y less edge = by (arc_of x y edge)
    where
      by : IsArcOf x y → LeadsFrom sent ins entries (entries + variables) x y
      by h = of h.arc
        where
          of : IsEntryArc entries (entries + variables) h.place h.entry.stmt x y → LeadsFrom sent ins entries (entries + variables) x y
          of (sends p c e f) = to_out p (subst (λ (k : ℕ). Contains (sent k) p) (sym e) (has_row sent_by body h.place p (record { entry = h.entry; there = h.there; has = c }))) f
          of (gets p c e f) = absurd (omega (arith, less, e))
          of (opens p c e f) = absurd (omega (arith, less, e))
          of (leads p c e f) = to_in p (subst (λ (k : ℕ). Contains (ins k) p) (sym e) (has_row ins_by body h.place p (record { entry = h.entry; there = h.there; has = c }))) f

  from_out : (p y : ℕ) → p < variables → IsEdge (wires u) (entries + p) y → Contains (outs y) p
  from_out p y less edge = by (arc_of (entries + p) y edge)
    where
      by : IsArcOf (entries + p) y → Contains (outs y) p
      by h = of h.arc
        where
          of : IsEntryArc entries (entries + variables) h.place h.entry.stmt (entries + p) y → Contains (outs y) p
          of (sends q c e f) = absurd (omega (arith, h.within, e))
          of (gets q c e f) = absurd (omega (arith, less, e))
          of (opens q c e f) =
              let same : q ≡ p = omega (arith, e) in
              subst (λ (k : ℕ). Contains (outs k) p) (sym f) (has_row outs_by body h.place p (record { entry = h.entry; there = h.there; has = subst (Contains (channel_out u h.entry.stmt)) same c }))
          of (leads q c e f) = absurd (omega (arith, h.within, e))

  from_in : (p y : ℕ) → p < variables → IsEdge (wires u) (entries + variables + p) y → Contains (sent y) p
  from_in p y less edge = by (arc_of (entries + variables + p) y edge)
    where
      by : IsArcOf (entries + variables + p) y → Contains (sent y) p
      by h = of h.arc
        where
          of : IsEntryArc entries (entries + variables) h.place h.entry.stmt (entries + variables + p) y → Contains (sent y) p
          of (sends q c e f) = absurd (omega (arith, h.within, e))
          of (gets q c e f) =
              let same : q ≡ p = omega (arith, e) in
              subst (λ (k : ℕ). Contains (sent k) p) (sym f) (has_row sent_by body h.place p (record { entry = h.entry; there = h.there; has = subst (Contains (given u h.entry.stmt)) same c }))
          of (opens q c e f) = absurd (omega (arith, below_in variables (channel_out u h.entry.stmt) q (out_port_below u h.entry.stmt) c, e))
          of (leads q c e f) = absurd (omega (arith, h.within, e))

  sent_below : (x p : ℕ) → Contains (sent x) p → p < variables
  sent_below x p c = let h = row_has sent_by body x p c in below_in variables (given u h.entry.stmt) p (given_below u h.entry.stmt) h.has

  outs_below : (x p : ℕ) → Contains (outs x) p → p < variables
  outs_below x p c = let h = row_has outs_by body x p c in below_in variables (channel_out u h.entry.stmt) p (out_port_below u h.entry.stmt) h.has

  ins_below : (x p : ℕ) → Contains (ins x) p → p < variables
  ins_below x p c = let h = row_has ins_by body x p c in below_in variables (channel_in u h.entry.stmt) p (in_port_below u h.entry.stmt) h.has

  row_within : (f : Entry → List ℕ) (x p : ℕ) → Contains (get_or (map f body) x []) p → x < entries
  row_within f x p c = let h = row_has f body x p c in slice_get_within body x h.entry h.there

  pub is_wired : IsWired sent outs ins entries variables (edges u) (wires u)
  is_wired = record {
    entries = from_entry;
    from_out = from_out;
    from_in = from_in;
    sends = λ x p c. let h = row_has sent_by body x p c in let w = row_within sent_by x p c in
        edge_of x x (entries + p) h.entry h.there (sends_there entries (entries + variables) x h.entry.stmt p h.has) (omega (arith, w));
    gets = λ x p c. let h = row_has sent_by body x p c in let l = sent_below x p c in
        edge_of x (entries + variables + p) x h.entry h.there (gets_there entries (entries + variables) x h.entry.stmt p h.has) (omega (arith, l));
    opens = λ x p c. let h = row_has outs_by body x p c in let l = outs_below x p c in
        edge_of x (entries + p) x h.entry h.there (opens_there entries (entries + variables) x h.entry.stmt p h.has) (omega (arith, l));
    leads = λ x p c. let h = row_has ins_by body x p c in let w = row_within ins_by x p c in
        edge_of x x (entries + variables + p) h.entry h.there (leads_there entries (entries + variables) x h.entry.stmt p h.has) (omega (arith, w));
    sent_below = sent_below;
    outs_below = outs_below;
    ins_below = ins_below;
    sent_within = λ x p c. row_within sent_by x p c;
    outs_within = λ x p c. row_within outs_by x p c;
    not_out = λ x p q c d. let h = row_has sent_by body x p c in let g = row_has outs_by body x q d in
        let same : g.entry ≡ h.entry = some_same g.entry h.entry (sym g.there ∙ h.there) in
        gives_no_out u h.entry.stmt p q h.has (subst (λ (e : Entry). Contains (channel_out u e.stmt) q) same g.has);
    not_in = λ x p q c d. let h = row_has sent_by body x p c in let g = row_has ins_by body x q d in
        let same : g.entry ≡ h.entry = some_same g.entry h.entry (sym g.there ∙ h.there) in
        gives_no_in u h.entry.stmt p q h.has (subst (λ (e : Entry). Contains (channel_in u e.stmt) q) same g.has);
    pipe = pipe;
    piped = piped;
  }
