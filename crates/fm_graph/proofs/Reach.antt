-- Walks, one behind another.
use Rattle.std.proofs.Common.{ℕ, suc, zero, List, refl, sym, subst}
use Rattle.fm_graph.specs.Graph.{IsEdge, IsWalk, Reaches}

pub reach_self : (g : List (List ℕ)) (u : ℕ) → Reaches g u u
reach_self g u = (0, refl)

pub reach_edge : (g : List (List ℕ)) (u v : ℕ) → IsEdge g u v → Reaches g u v
reach_edge g u v e = (1, (v, e, refl))

walk_join : (g : List (List ℕ)) (m u v w : ℕ) → IsWalk g m u v → Reaches g v w → Reaches g u w
walk_join g zero u v w e h = subst (λ (x : ℕ). Reaches g x w) (sym e) h
walk_join g (suc m) u v w k h = let r = walk_join g m k.0 v w k.2 h in (suc r.0, (k.0, k.1, r.1))

pub reach_join : (g : List (List ℕ)) (u v w : ℕ) → Reaches g u v → Reaches g v w → Reaches g u w
reach_join g u v w a b = walk_join g a.0 u v w a.1 b

walk_closed : (g : List (List ℕ)) (P : ℕ → Type 0) → ((v x : ℕ) → P v → IsEdge g v x → P x) → (m u v : ℕ) → IsWalk g m u v → P u → P v
walk_closed g P shut zero u v e p = subst P e p
walk_closed g P shut (suc m) u v k p = walk_closed g P shut m k.0 v k.2 (shut u k.0 p k.1)

-- what no edge leaves is not left
pub reach_closed : (g : List (List ℕ)) (P : ℕ → Type 0) → ((v x : ℕ) → P v → IsEdge g v x → P x) → (u v : ℕ) → Reaches g u v → P u → P v
reach_closed g P shut u v a p = walk_closed g P shut a.0 u v a.1 p
