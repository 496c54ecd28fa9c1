-- A graph with a node for all that makes: a node reaches one that makes where it reaches that node.
use Rattle.std.proofs.Common.{◌≡◌, ℕ, suc, zero, ◌+◌, ◌<◌, ◌≤◌, ◌⊎◌, inl, inr, ⊎_elim, List, [], ◌∷◌, ◌++◌, length, refl, sym, ap, ◌∙◌, subst, arith}
use Rattle.fm_graph.specs.Graph.{IsEdge, IsWalk, Reaches}
use Rattle.fm_graph.proofs.Reach.{reach_edge, reach_join, reach_self}

-- an edge from the node of v leads to 0, or to the node of one that v leads to
pub data LeadsOn (g : List (List ℕ)) (Makes : ℕ → Type 0) (v y : ℕ) : Type 0 where
  to_makers : y ≡ 0 → Makes v → LeadsOn g Makes v y
  to_node : (w : ℕ) → y ≡ suc w → IsEdge g v w → LeadsOn g Makes v y

pub record IsHung (g h : List (List ℕ)) (Makes : ℕ → Type 0) (count : ℕ) : Type 0 where
  pub leads : (v y : ℕ) → IsEdge h (suc v) y → LeadsOn g Makes v y
  pub makers : (v : ℕ) → v < count → Makes v → IsEdge h (suc v) 0
  pub calls : (v w : ℕ) → IsEdge g v w → IsEdge h (suc v) (suc w)
  pub all : (v : ℕ) → v < count → IsEdge h 0 (suc v)

module _ (g h : List (List ℕ)) (Makes : ℕ → Type 0) (count : ℕ) (hung : IsHung g h Makes count) where
  abbrev ReachesMaker : ℕ → Type 0
  ReachesMaker v = (m : ℕ) × Reaches g v m × Makes m

  walk_to_maker : (n v : ℕ) → IsWalk h n (suc v) 0 → ReachesMaker v
  walk_to_maker zero v walk = absurd (cc walk)
  walk_to_maker (suc n) v walk = by (hung.leads v walk.0 walk.1) (λ w rest. walk_to_maker n w rest)
    where
      by : LeadsOn g Makes v walk.0 → ((w : ℕ) → IsWalk h n (suc w) 0 → ReachesMaker w) → ReachesMaker v
      by (to_makers e makes) on = (v, reach_self g v, makes)
      by (to_node w e edge) on =
          let rest = on w (subst (λ (k : ℕ). IsWalk h n k 0) e walk.2) in
          (rest.0, reach_join g v w rest.0 (reach_edge g v w edge) rest.1, rest.2)

  pub to_maker : (v : ℕ) → Reaches h (suc v) 0 → ReachesMaker v
  to_maker v r = walk_to_maker r.0 v r.1

  walk_up : (n v m : ℕ) → IsWalk g n v m → Reaches h (suc v) (suc m)
  walk_up zero v m walk = subst (λ (k : ℕ). Reaches h (suc v) (suc k)) walk (reach_self h (suc v))
  walk_up (suc n) v m walk = reach_join h (suc v) (suc walk.0) (suc m) (reach_edge h (suc v) (suc walk.0) (hung.calls v walk.0 walk.1)) (walk_up n walk.0 m walk.2)

  pub from_maker : (v m : ℕ) → v < count → m < count → Reaches g v m → Makes m → Reaches h 0 (suc v) × Reaches h (suc v) 0
  from_maker v m inside less r makes = (
    reach_edge h 0 (suc v) (hung.all v inside),
    reach_join h (suc v) (suc m) 0 (walk_up r.0 v m r.1) (reach_edge h (suc m) 0 (hung.makers m less makes)),
  )
