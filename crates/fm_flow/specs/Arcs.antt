-- Graphs by lists of arcs.
-- Source: this profile.
use Rattle.std.specs.Prelude.{ℕ, Bool, List, [], ◌∷◌, ◌++◌, replicate, slice_get, slice_index_or, slice_set}
use Rattle.fm_call_graph.specs.Components.{same_name}

abbrev pub with_arc : List (List ℕ) → ℕ × ℕ → List (List ℕ)
with_arc g arc = slice_set g arc.0 (slice_index_or g arc.0 [] ++ arc.1 ∷ [])

abbrev pub with_arcs : List (List ℕ) → List (ℕ × ℕ) → List (List ℕ)
with_arcs g [] = g
with_arcs g (arc ∷ arcs) = with_arcs (with_arc g arc) arcs

-- the graph of so many nodes with these arcs
abbrev pub graph_by : ℕ → List (ℕ × ℕ) → List (List ℕ)
graph_by count arcs = with_arcs (replicate count []) arcs

-- whether two nodes are in one component, by the names of components
abbrev pub is_together : List ℕ → (a b : ℕ) → Bool
is_together names a b = same_name (slice_get names a) (slice_get names b)
