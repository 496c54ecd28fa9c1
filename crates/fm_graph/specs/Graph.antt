-- Directed graphs: for each node the list of the nodes that its edges lead to. A node past the end has no edges.
-- Source: R. Tarjan, Depth-first search and linear graph algorithms, SIAM J. Comput. 1 (1972), for strong components.
use Rattle.std.specs.Prelude.{◌≡◌, ◌↔◌, ℕ, ◌<◌, zero, suc, IsTrue, Bool, false, List, [], length, slice_index_or, Contains}

abbrev pub edges_of : List (List ℕ) → ℕ → List ℕ
edges_of g u = slice_index_or g u []

abbrev pub IsEdge : List (List ℕ) → ℕ → ℕ → Type 0
IsEdge g u v = Contains (edges_of g u) v

-- a walk of so many edges
abbrev pub IsWalk : List (List ℕ) → ℕ → ℕ → ℕ → Type 0
IsWalk g zero u v = u ≡ v
IsWalk g (suc n) u v = (w : ℕ) × IsEdge g u w × IsWalk g n w v

-- by a walk, also one of no edges
abbrev pub Reaches : List (List ℕ) → ℕ → ℕ → Type 0
Reaches g u v = (n : ℕ) × IsWalk g n u v

-- the strong components, by a name for each node: two nodes have one name exactly where each reaches the other
pub record IsComponents (g : List (List ℕ)) (names : List ℕ) : Type 0 where
  pub sized : length names ≡ length g
  pub apart : (u v : ℕ) → u < length g → v < length g
      → (slice_index_or names u u ≡ slice_index_or names v v) ↔ (Reaches g u v × Reaches g v u)

-- the nodes that a node reaches, by a flag for each
pub record IsReached (g : List (List ℕ)) (from : ℕ) (flags : List Bool) : Type 0 where
  pub sized : length flags ≡ length g
  pub reached : (v : ℕ) → v < length g → (IsTrue (slice_index_or flags v false) ↔ Reaches g from v)
