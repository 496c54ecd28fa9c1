-- The edges of a graph by arcs.
use Rattle.std.proofs.Common.{◌≡◌, ℕ, suc, zero, ◌+◌, ◌<◌, ◌≤◌, ◌⊎◌, inl, inr, ⊎_elim, List, [], ◌∷◌, ◌++◌, length, replicate, get_or, set, refl, sym, ap, ◌∙◌, subst, arith}
use Rattle.std.specs.Prelude.{Contains}
use Rattle.std.proofs.lemmas.Bool.{cases_eq, cases_lt}
use Rattle.std.proofs.lemmas.List.{get_or_past, get_or-replicate, get_or-set_same, get_or-set_other, length-replicate, length-set, set_past}
use Rattle.std.proofs.lemmas.List.Elements.{Contains-append_cases, Contains-append_left, Contains-append_right}
use Rattle.fm_graph.specs.Graph.{IsEdge, edges_of}
use Rattle.fm_rules.proofs.Lists.{at_head, behind_head, head_or_behind, not_in_none}
use Rattle.fm_flow.specs.Arcs.{graph_by, with_arc, with_arcs}

arc_length : (g : List (List ℕ)) (arc : ℕ × ℕ) → length (with_arc g arc) ≡ length g
arc_length g arc = length-set g arc.0 (get_or g arc.0 [] ++ arc.1 ∷ [])

pub arcs_length : (g : List (List ℕ)) (arcs : List (ℕ × ℕ)) → length (with_arcs g arcs) ≡ length g
arcs_length g [] = refl
arcs_length g (arc ∷ arcs) = arcs_length (with_arc g arc) arcs ∙ arc_length g arc

module _ (g : List (List ℕ)) (arc : ℕ × ℕ) where
  here : arc.0 < length g → edges_of (with_arc g arc) arc.0 ≡ edges_of g arc.0 ++ arc.1 ∷ []
  here less = get_or-set_same g arc.0 (get_or g arc.0 [] ++ arc.1 ∷ []) [] less

  there : (x : ℕ) → (x ≡ arc.0 → ⊥) → edges_of (with_arc g arc) x ≡ edges_of g x
  there x other = get_or-set_other g arc.0 x (get_or g arc.0 [] ++ arc.1 ∷ []) [] other

  edge_kept : (x y : ℕ) → IsEdge g x y → IsEdge (with_arc g arc) x y
  edge_kept x y e =
      ⊎_elim (λ (same : x ≡ arc.0). at_it same (cases_lt arc.0 (length g))) (λ (other : x ≡ arc.0 → ⊥). subst (λ (ys : List ℕ). Contains ys y) (sym (there x other)) e) (cases_eq x arc.0)
    where
      at_it : x ≡ arc.0 → (arc.0 < length g) ⊎ (length g ≤ arc.0) → IsEdge (with_arc g arc) x y
      at_it same (inl less) =
          subst (λ (k : ℕ). IsEdge (with_arc g arc) k y) (sym same)
          (subst (λ (ys : List ℕ). Contains ys y) (sym (here less)) (Contains-append_left (edges_of g arc.0) (arc.1 ∷ []) y (subst (λ (k : ℕ). IsEdge g k y) same e)))
      at_it same (inr past) = subst (λ (h : List (List ℕ)). IsEdge h x y) (sym (set_past g arc.0 (get_or g arc.0 [] ++ arc.1 ∷ []) past)) e

  edge_new : arc.0 < length g → IsEdge (with_arc g arc) arc.0 arc.1
  edge_new less = subst (λ (ys : List ℕ). Contains ys arc.1) (sym (here less)) (Contains-append_right (edges_of g arc.0) (arc.1 ∷ []) arc.1 (at_head arc.1 []))

  edge_one : (x y : ℕ) → IsEdge (with_arc g arc) x y → IsEdge g x y ⊎ ((arc.0 ≡ x) × (arc.1 ≡ y))
  edge_one x y e =
      ⊎_elim (λ (same : x ≡ arc.0). at_it same (cases_lt arc.0 (length g))) (λ (other : x ≡ arc.0 → ⊥). inl (subst (λ (ys : List ℕ). Contains ys y) (there x other) e)) (cases_eq x arc.0)
    where
      at_it : x ≡ arc.0 → (arc.0 < length g) ⊎ (length g ≤ arc.0) → IsEdge g x y ⊎ ((arc.0 ≡ x) × (arc.1 ≡ y))
      at_it same (inl less) =
          ⊎_elim (λ (old : Contains (edges_of g arc.0) y). inl (subst (λ (k : ℕ). IsEdge g k y) (sym same) old))
          (λ (new : Contains (arc.1 ∷ []) y). inr (sym same, ⊎_elim (λ (s : arc.1 ≡ y). s) (λ (n : Contains [] y). absurd (not_in_none y n)) (head_or_behind arc.1 y [] new)))
          (Contains-append_cases (edges_of g arc.0) (arc.1 ∷ []) y (subst (λ (ys : List ℕ). Contains ys y) (here less) (subst (λ (k : ℕ). IsEdge (with_arc g arc) k y) same e)))
      at_it same (inr past) = inl (subst (λ (h : List (List ℕ)). IsEdge h x y) (set_past g arc.0 (get_or g arc.0 [] ++ arc.1 ∷ []) past) e)

edges_kept : (g : List (List ℕ)) (arcs : List (ℕ × ℕ)) (x y : ℕ) → IsEdge g x y → IsEdge (with_arcs g arcs) x y
edges_kept g [] x y e = e
edges_kept g (arc ∷ arcs) x y e = edges_kept (with_arc g arc) arcs x y (edge_kept g arc x y e)

edges_new : (g : List (List ℕ)) (arcs : List (ℕ × ℕ)) (x y : ℕ) → Contains arcs (x, y) → x < length g → IsEdge (with_arcs g arcs) x y
edges_new g [] x y c less = absurd (not_in_none (x, y) c)
edges_new g (arc ∷ arcs) x y c less =
    ⊎_elim (λ (same : arc ≡ (x, y)). edges_kept (with_arc g arc) arcs x y (by same)) (λ (d : Contains arcs (x, y)). edges_new (with_arc g arc) arcs x y d (let n = arc_length g arc in omega (arith, n, less))) (head_or_behind arc (x, y) arcs c)
  where
    by : arc ≡ (x, y) → IsEdge (with_arc g arc) x y
    by same = subst (λ (a : ℕ × ℕ). IsEdge (with_arc g arc) a.0 a.1) same (edge_new g arc (subst (λ (a : ℕ × ℕ). a.0 < length g) (sym same) less))

edges_told : (g : List (List ℕ)) (arcs : List (ℕ × ℕ)) (x y : ℕ) → IsEdge (with_arcs g arcs) x y → IsEdge g x y ⊎ Contains arcs (x, y)
edges_told g [] x y e = inl e
edges_told g (arc ∷ arcs) x y e =
    ⊎_elim (λ (d : IsEdge (with_arc g arc) x y). ⊎_elim (λ (old : IsEdge g x y). inl old) (λ (new : (arc.0 ≡ x) × (arc.1 ≡ y)). inr (subst (Contains (arc ∷ arcs)) (both new.0 new.1) (at_head arc arcs))) (edge_one g arc x y d))
    (λ (c : Contains arcs (x, y)). inr (behind_head arc (x, y) arcs c)) (edges_told (with_arc g arc) arcs x y e)
  where
    both : arc.0 ≡ x → arc.1 ≡ y → arc ≡ (x, y)
    both e f = ap (λ (a : ℕ). (a, arc.1)) e ∙ ap (λ (b : ℕ). (x, b)) f

nothing_long : (count : ℕ) → length (graph_by count []) ≡ count
nothing_long count = length-replicate count []

no_edges : (count x y : ℕ) → IsEdge (replicate count []) x y → ⊥
no_edges count x y e = ⊎_elim (λ (less : x < count). not_in_none y (subst (λ (ys : List ℕ). Contains ys y) (get_or-replicate count x [] [] less) e))
    (λ (past : count ≤ x). not_in_none y (subst (λ (ys : List ℕ). Contains ys y) (get_or_past (replicate count []) x [] (let n = nothing_long count in omega (arith, n, past))) e)) (cases_lt x count)

pub graph_length : (count : ℕ) (arcs : List (ℕ × ℕ)) → length (graph_by count arcs) ≡ count
graph_length count arcs = arcs_length (replicate count []) arcs ∙ length-replicate count []

-- the edges are the arcs
pub edge_arc : (count : ℕ) (arcs : List (ℕ × ℕ)) (x y : ℕ) → IsEdge (graph_by count arcs) x y → Contains arcs (x, y)
edge_arc count arcs x y e = ⊎_elim (λ (old : IsEdge (replicate count []) x y). absurd (no_edges count x y old)) (λ (c : Contains arcs (x, y)). c) (edges_told (replicate count []) arcs x y e)

pub arc_edge : (count : ℕ) (arcs : List (ℕ × ℕ)) (x y : ℕ) → Contains arcs (x, y) → x < count → IsEdge (graph_by count arcs) x y
arc_edge count arcs x y c less = edges_new (replicate count []) arcs x y c (let n = nothing_long count in omega (arith, n, less))
