-- What a node reaches, while it is looked for: flags of the nodes that are seen, and nodes to be looked at.
-- Source: the usual search of a graph with marks and a list of nodes to visit.
use Rattle.std.specs.Prelude.{◌≡◌, ℕ, ◌+◌, ◌<◌, ◌⊎◌, Bool, true, false, if◌then◌else◌, List, [], ◌∷◌, ◌++◌, length, slice_index_or, slice_set, Contains}
use Rattle.fm_graph.specs.Graph.{IsEdge, Reaches, edges_of}

-- a node past the end leads nowhere
abbrev pub flag_at : List Bool → ℕ → Bool
flag_at flags v = slice_index_or flags v true

abbrev pub flags_after : List Bool → ℕ → List Bool
flags_after flags v = if flag_at flags v then flags else slice_set flags v true

abbrev pub pending_after : List (List ℕ) → List Bool → ℕ → List ℕ → List ℕ
pending_after g flags v pending = if flag_at flags v then pending else pending ++ edges_of g v

-- the edges of nodes that aren't seen yet, and one for each such node
abbrev pub load_of : Bool → ℕ → ℕ
load_of true edges = 0
load_of false edges = edges + 1

abbrev pub load : List Bool → List (List ℕ) → ℕ
load [] g = 0
load (b ∷ bs) [] = 0
load (b ∷ bs) (es ∷ g) = load_of b (length es) + load bs g

pub record IsReaching (g : List (List ℕ)) (from : ℕ) (flags : List Bool) (pending : List ℕ) : Type 0 where
  pub sized : length flags ≡ length g
  pub sound : (v : ℕ) → v < length flags → flag_at flags v ≡ true → Reaches g from v
  pub reached : (x : ℕ) → Contains pending x → Reaches g from x
  pub shut : (v x : ℕ) → v < length flags → flag_at flags v ≡ true → IsEdge g v x → (flag_at flags x ≡ true) ⊎ Contains pending x
  pub begun : (flag_at flags from ≡ true) ⊎ Contains pending from
