-- The path of segments: what stays where marks and pending edges change, and segments that become one.
use Rattle.std.proofs.Common.{◌≡◌, ℕ, ◌<◌, ◌≤◌, ⊎_elim, List, [], ◌∷◌, length, get_or, sym, ap, subst, arith, ltb}
use Rattle.std.proofs.lemmas.Bool.{cases_lt, lt-ltb, le-ltb, cond-true, cond-false}
use Rattle.fm_graph.specs.declared.search.Mark.{Mark}
use Rattle.fm_graph.specs.declared.search.Mark.TheVariants.{OnPath}
use Rattle.fm_graph.specs.declared.search.Segment.{Segment}
use Rattle.fm_graph.specs.Graph.{Reaches}
use Rattle.fm_graph.specs.Search.{IsPath, IsRest, Settled, done, on_path, waits, merged}
use Rattle.fm_graph.proofs.Reach.{reach_join}

-- the last segment begins no later than a place
abbrev pub IsStart : List Segment → ℕ → Type 0
IsStart [] q = Unit {0}
IsStart (s ∷ ss) q = s.start ≤ q

-- nodes of the path reach the first node of the last segment
pub reaches_last : (g : List (List ℕ)) (m : ℕ → Mark) (pending : List ℕ) (s : Segment) (ss : List Segment) (limit rest v p : ℕ)
    → IsPath g m pending (s ∷ ss) limit rest → m v ≡ OnPath p → p < limit → Reaches g v s.node
reaches_last g m pending s [] limit rest v p h is l =
    ⊎_elim (λ (x : p < s.start). absurd (omega (arith, h.2))) (λ (x : s.start ≤ p). h.0.to_node v p is x l) (cases_lt p s.start)
reaches_last g m pending s (r ∷ ss) limit rest v p h is l =
    ⊎_elim (λ (x : p < s.start). reach_join g v r.node s.node (reaches_last g m pending r ss s.start s.rest v p h.2 is x) h.1)
    (λ (x : s.start ≤ p). h.0.to_node v p is x l) (cases_lt p s.start)

settled_wider : (m : ℕ → Mark) (pending : List ℕ) (start rest start' rest' x : ℕ) → start' ≤ start → rest' ≤ rest → Settled m pending start rest x → Settled m pending start' rest' x
settled_wider m pending start rest start' rest' x a b (done c e) = done c e
settled_wider m pending start rest start' rest' x a b (on_path q e l) = on_path q e (omega (arith, a, l))
settled_wider m pending start rest start' rest' x a b (waits k l w e) = waits k (omega (arith, b, l)) w e

-- two segments become one
one_merged : (g : List (List ℕ)) (m : ℕ → Mark) (pending : List ℕ) (t s : Segment) (ss : List Segment) (limit rest : ℕ)
    → IsPath g m pending (t ∷ s ∷ ss) limit rest → Reaches g t.node s.node → IsPath g m pending (s ∷ ss) limit rest
one_merged g m pending t s ss limit rest h back =
    let a = h.0 in
    let b = h.2.0 in (
      record {
        some = omega (arith, a.some, b.some);
        order = omega (arith, a.order, b.order);
        to_node = λ v p is l u. ⊎_elim (λ (x : p < t.start). b.to_node v p is l x) (λ (x : t.start ≤ p). reach_join g v t.node s.node (a.to_node v p is x u) back) (cases_lt p t.start);
        from_node = λ v p is l u. ⊎_elim (λ (x : p < t.start). b.from_node v p is l x) (λ (x : t.start ≤ p). reach_join g s.node t.node v h.1 (a.from_node v p is x u)) (cases_lt p t.start);
        waiting = λ k x l u w e. ⊎_elim (λ (y : k < t.rest). b.waiting k x l y w e) (λ (y : t.rest ≤ k). reach_join g s.node t.node x h.1 (a.waiting k x y u w e)) (cases_lt k t.rest);
        settled = λ v p x is l u e. ⊎_elim (λ (y : p < t.start). b.settled v p x is l y e)
            (λ (y : t.start ≤ p). settled_wider m pending t.start t.rest s.start s.rest x (omega (arith, b.some)) b.order (a.settled v p x is y u e)) (cases_lt p t.start);
      },
      h.2.1,
      h.2.2,
    )

-- back to the segment of a node that the last one reaches
pub path_merged : (g : List (List ℕ)) (m : ℕ → Mark) (pending : List ℕ) (s : Segment) (ss : List Segment) (limit rest v p : ℕ)
    → IsPath g m pending (s ∷ ss) limit rest → m v ≡ OnPath p → p < limit → Reaches g s.node v → IsPath g m pending (merged p (s ∷ ss)) limit rest
path_merged g m pending s [] limit rest v p h is l r =
    ⊎_elim (λ (x : p < s.start). absurd (omega (arith, h.2)))
    (λ (x : s.start ≤ p). subst (λ (qs : List Segment). IsPath g m pending qs limit rest) (sym (cond-false (ltb p s.start) (merged p []) (s ∷ []) (le-ltb p s.start x))) h) (cases_lt p s.start)
path_merged g m pending t (s ∷ ss) limit rest v p h is l r =
    ⊎_elim (λ (x : p < t.start).
    let w : Reaches g v s.node = reaches_last g m pending s ss t.start t.rest v p h.2 is x in
    let back : Reaches g t.node s.node = reach_join g t.node v s.node r w in
    let on : Reaches g s.node v = reach_join g s.node t.node v h.1 r in
    subst (λ (qs : List Segment). IsPath g m pending qs limit rest) (sym (cond-true (ltb p t.start) (merged p (s ∷ ss)) (t ∷ s ∷ ss) (lt-ltb p t.start x)))
    (path_merged g m pending s ss limit rest v p (one_merged g m pending t s ss limit rest h back) is l on))
    (λ (x : t.start ≤ p). subst (λ (qs : List Segment). IsPath g m pending qs limit rest) (sym (cond-false (ltb p t.start) (merged p (s ∷ ss)) (t ∷ s ∷ ss) (le-ltb p t.start x))) h) (cases_lt p t.start)

pub merged_start : (p : ℕ) (ss : List Segment) → IsStart (merged p ss) p
merged_start p [] = tt
merged_start p (s ∷ ss) =
    ⊎_elim (λ (x : p < s.start). subst (λ (qs : List Segment). IsStart qs p) (sym (cond-true (ltb p s.start) (merged p ss) (s ∷ ss) (lt-ltb p s.start x))) (merged_start p ss))
    (λ (x : s.start ≤ p). subst (λ (qs : List Segment). IsStart qs p) (sym (cond-false (ltb p s.start) (merged p ss) (s ∷ ss) (le-ltb p s.start x))) x) (cases_lt p s.start)

pub merged_fewer : (p : ℕ) (ss : List Segment) → length (merged p ss) ≤ length ss
merged_fewer p [] = omega arith
merged_fewer p (s ∷ ss) =
    ⊎_elim (λ (x : p < s.start). let e = ap length (cond-true (ltb p s.start) (merged p ss) (s ∷ ss) (lt-ltb p s.start x)) in let r = merged_fewer p ss in omega (arith, e, r))
    (λ (x : s.start ≤ p). let e = ap length (cond-false (ltb p s.start) (merged p ss) (s ∷ ss) (le-ltb p s.start x)) in omega (arith, e)) (cases_lt p s.start)

-- the pending edges of what is left begin no later
pub merged_rest : (g : List (List ℕ)) (m : ℕ → Mark) (pending : List ℕ) (p : ℕ) (ss : List Segment) (limit rest to : ℕ) → IsPath g m pending ss limit rest → IsRest ss to → IsRest (merged p ss) to
merged_rest g m pending p [] limit rest to h r = tt
merged_rest g m pending p (s ∷ ss) limit rest to h r =
    ⊎_elim (λ (x : p < s.start). subst (λ (qs : List Segment). IsRest qs to) (sym (cond-true (ltb p s.start) (merged p ss) (s ∷ ss) (lt-ltb p s.start x)))
    (merged_rest g m pending p ss s.start s.rest to h.2 (below ss h.2)))
    (λ (x : s.start ≤ p). subst (λ (qs : List Segment). IsRest qs to) (sym (cond-false (ltb p s.start) (merged p ss) (s ∷ ss) (le-ltb p s.start x))) r) (cases_lt p s.start)
  where
    below : (qs : List Segment) → IsPath g m pending qs s.start s.rest → IsRest qs to
    below [] k = tt
    below (q ∷ qs) k = omega (arith, k.0.order, r)

-- other marks and other pending edges, which say the same of the path before a place, and settle what was settled
module _ (g : List (List ℕ)) (m m' : ℕ → Mark) (pending pending' : List ℕ) (within upto : ℕ)
    (marks : (v p : ℕ) → m' v ≡ OnPath p → p < within → m v ≡ OnPath p)
    (settles : (start rest x : ℕ) → start ≤ upto → Settled m pending start rest x → Settled m' pending' start rest x) where
  pub path_kept : (ss : List Segment) (limit rest rest' : ℕ)
      → ((k x : ℕ) → k < rest' → k < length pending' → get_or pending' k x ≡ x → (k < length pending) × (get_or pending k x ≡ x))
      → limit ≤ within → rest' ≤ rest → IsStart ss upto → IsRest ss rest' → IsPath g m pending ss limit rest → IsPath g m' pending' ss limit rest'
  path_kept [] limit rest rest' waits' l r u w h = h
  path_kept (s ∷ ss) limit rest rest' waits' l r u w h =
      let a = h.0 in (
        record {
          some = a.some;
          order = w;
          to_node = λ v p is x y. a.to_node v p (marks v p is (omega (arith, y, l))) x y;
          from_node = λ v p is x y. a.from_node v p (marks v p is (omega (arith, y, l))) x y;
          waiting = λ k x y z b e. let c = waits' k x z b e in a.waiting k x y (omega (arith, z, r)) c.0 c.1;
          settled = λ v p x is y z e. settles s.start s.rest x u (a.settled v p x (marks v p is (omega (arith, z, l))) y z e);
        },
        h.1,
        path_kept ss s.start s.rest s.rest (λ k x y b e. waits' k x (omega (arith, y, w)) b e) (omega (arith, a.some, l)) (omega arith) (start ss h.2) (order ss h.2) h.2,
      )
    where
      start : (qs : List Segment) → IsPath g m pending qs s.start s.rest → IsStart qs upto
      start [] k = tt
      start (q ∷ qs) k = omega (arith, k.0.some, u)

      order : (qs : List Segment) → IsPath g m pending qs s.start s.rest → IsRest qs s.rest
      order [] k = tt
      order (q ∷ qs) k = k.0.order
