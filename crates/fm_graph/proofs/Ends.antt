-- The search at its end.
use Rattle.std.proofs.Common.{◌≡◌, ℕ, ◌<◌, List, [], ◌↔◌, length, get_or, map, true, false, refl, sym, ap, ◌∙◌, subst, arith}
use Rattle.std.proofs.lemmas.List.{get_or-map, length-map}
use Rattle.fm_graph.specs.declared.search.Mark.{Mark}
use Rattle.fm_graph.specs.declared.search.Mark.TheVariants.{Unseen, OnPath, Done}
use Rattle.fm_graph.specs.Graph.{IsComponents, Reaches}
use Rattle.fm_graph.specs.Search.{IsSearch, is_seen, mark_at, name_of}
use Rattle.fm_graph.proofs.Reach.{reach_join}

-- all is seen
module _ (g : List (List ℕ)) (ms : List Mark) (path pending : List ℕ) (h : IsSearch g ms path [] pending) (seen : (v : ℕ) → v < length g → is_seen (mark_at ms v) ≡ true) where
  all_done : (v : ℕ) → v < length g → (c : ℕ) × (mark_at ms v ≡ Done c)
  all_done v l = of (mark_at ms v) refl
    where
      of : (k : Mark) → mark_at ms v ≡ k → (c : ℕ) × (mark_at ms v ≡ Done c)
      of Unseen e = let x : false ≡ true = sym (ap is_seen e) ∙ seen v l in absurd (cc)
      of (OnPath p) e = let x = (h.known v p e).0 in let z : length path ≡ 0 = h.segmented in absurd (omega (arith, x, z))
      of (Done c) e = (c, e)

  named : (v c : ℕ) → v < length g → mark_at ms v ≡ Done c → get_or (map name_of ms) v v ≡ c
  named v c l e = get_or-map name_of ms v (Done v) v (let s = h.sized in omega (arith, s, l)) ∙ ap name_of e

  pub components_found : IsComponents g (map name_of ms)
  components_found = record {
    sized = length-map ms name_of ∙ h.sized;
    apart = λ u v l m. both u v l m (all_done u l) (all_done v m);
  }
    where
      both : (u v : ℕ) → u < length g → v < length g → ((c : ℕ) × (mark_at ms u ≡ Done c)) → ((d : ℕ) × (mark_at ms v ≡ Done d))
          → (get_or (map name_of ms) u u ≡ get_or (map name_of ms) v v) ↔ (Reaches g u v × Reaches g v u)
      both u v l m c d = (
        λ e. let f : c.0 ≡ d.0 = sym (named u c.0 l c.1) ∙ e ∙ named v d.0 m d.1 in (
          reach_join g u d.0 v (subst (λ (x : ℕ). Reaches g u x) f (h.finished.to_name u c.0 c.1)) (h.finished.from_name v d.0 d.1),
          reach_join g v c.0 u (subst (λ (x : ℕ). Reaches g v x) (sym f) (h.finished.to_name v d.0 d.1)) (h.finished.from_name u c.0 c.1),
        ),
        λ r. named u c.0 l c.1 ∙ h.finished.same u v c.0 d.0 (let s = h.sized in omega (arith, s, l)) c.1 d.1 r.0 r.1 ∙ sym (named v d.0 m d.1),
      )
