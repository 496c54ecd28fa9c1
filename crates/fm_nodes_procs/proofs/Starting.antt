-- Children that start, and their parent that goes on.
use Rattle.std.proofs.Common.{◌≡◌, ℕ, zero, suc, Bool, true, false, cond, Option, Some, None, List, ◌++◌, length, map, refl, sym, ap, subst, ◌∙◌}
use Rattle.std.specs.Prelude.{option_map}
use Rattle.std.specs.List.{zip}
use Rattle.std.specs.Arc.{arc_value}
use Rattle.std.proofs.lemmas.List.{length-map}
use Rattle.std.specs.FinMap.{get}
use Rattle.std.specs.Ordering.{eq_by_cmp}
use Rattle.std.specs.declared.alloc.Global.{Global}
use Rattle.std.specs.declared.sync.Arc.{Arc}
use Rattle.fm_base.specs.PathOrder.{path_cmp}
use Rattle.fm_base.specs.declared.path.Path.{Path}
use Rattle.fm_finmap.specs.Changes.{alters}
use Rattle.fm_finmap.specs.Map.{map_values}
use Rattle.fm_finmap.specs.Rows.{AreDistinct, numbered_map, places, places_in}
use Rattle.fm_finmap.proofs.Alters.{get-alter}
use Rattle.fm_finmap.proofs.Keys.{path_order}
use Rattle.fm_net.specs.Machine.{Place, Procs, child, child_changes, start_changes}
use Rattle.fm_net.specs.Starts.{child_places}
use Rattle.fm_nodes_procs.specs.Processes.{by_path, order_of, procs_of, rows_in}
use Rattle.fm_nodes_procs.specs.declared.processes.Processes.{Processes}
use Rattle.fm_nodes_procs.proofs.Kept.{places_kept}
use Rattle.fm_nodes_procs.proofs.Procs.{there, procs_are, rows_of_children, children_start, children_apart}

-- who isn't there isn't there either where children are joined
pub none_stays : {Proc : Type 0} (emptied : Proc → Proc) (m : Procs Proc) (p : Place) (b i n : ℕ) (q : Place) → get m q ≡ None → get (alters (child_changes emptied p b i n) m) q ≡ None
none_stays emptied m p b i zero q none = none
none_stays emptied m p b i (suc n) q none =
    let rest = none_stays emptied m p b (suc i) n q none in
    get-alter path_order (alters (child_changes emptied p b (suc i) n) m) (child p b i) (option_map emptied) q
    ∙ ap (λ o. cond (eq_by_cmp path_cmp q (child p b i)) (option_map emptied o) o) rest
    ∙ go (eq_by_cmp path_cmp q (child p b i))
  where
    go : (c : Bool) → cond c (option_map emptied None) None ≡ None
    go true = refl
    go false = refl

-- so many places, so many paths
places_count : (p : Place) (b i n : ℕ) → length (child_places p b i n) ≡ n
places_count p b i zero = refl
places_count p b i (suc n) = ap suc (places_count p b (suc i) n)

pub paths_count : (p : Place) (b n : ℕ) (paths : List (Arc Path Global)) → places_in paths ≡ child_places p b 1 n → n ≡ length paths
paths_count p b n paths at = sym (sym (length-map paths (λ (a : Arc Path Global). arc_value a)) ∙ ap length at ∙ places_count p b 1 n)

module _ {X Proc : Type 0} (seen : X → Proc) where
  -- nobody is there
  pub unseen : (x : Processes X) (q : Place) → get (procs_of seen x) q ≡ None → get (by_path x) q ≡ None
  unseen x q none = go (get (by_path x) q) refl
    where
      go : (o : Option X) → get (by_path x) q ≡ o → o ≡ None
      go None is = refl
      go (Some y) is = absurd (cc (sym none ∙ there seen x q (Some y) (sym is)))

  module _ (p : Place) (b : ℕ) (paths : List (Arc Path Global)) (xs : List X) (at : places_in paths ≡ child_places p b 1 (length xs)) where
    pub are_apart : (x : Processes X) → ((i : ℕ) → get (procs_of seen x) (child p b i) ≡ None) → AreDistinct (order_of x ++ places_in paths)
    are_apart x new =
        let rows = rows_in x.paths.items x.values.items in
        let same : places rows ≡ order_of x = places_kept x.paths.items x.values.items x.rows in
        let once : AreDistinct (places rows) = subst AreDistinct (sym same) x.rows.once in
        subst AreDistinct (ap (λ qs. qs ++ child_places p b 1 (length xs)) same ∙ ap (λ qs. order_of x ++ qs) (sym at))
        (children_apart p b rows 1 xs once (λ j far. unseen x (child p b j) (new j)))

    pub starts_there : (x y : Processes X) → ((i : ℕ) → get (procs_of seen x) (child p b i) ≡ None) → by_path y ≡ numbered_map (rows_in x.paths.items x.values.items ++ rows_in paths xs)
        → procs_of seen y ≡ alters (start_changes p b 1 (map seen xs)) (procs_of seen x)
    starts_there x y new is =
        let rows = rows_in x.paths.items x.values.items in
        let more = ap (λ qs. zip qs xs) at ∙ rows_of_children p b 1 xs in
        procs_are seen y ∙ ap (map_values seen) is
        ∙ ap (λ rs. map_values seen (numbered_map (rows ++ rs))) more
        ∙ children_start seen p b rows 1 xs (λ j far. unseen x (child p b j) (new j))
        ∙ ap (alters (start_changes p b 1 (map seen xs))) (sym (procs_are seen x))

    -- children are joined, and children start
    pub starts_all : (emptied : Proc → Proc) (old left grown : Processes X) → ((i : ℕ) → get (procs_of seen old) (child p b i) ≡ None) → (d n : ℕ)
        → procs_of seen left ≡ alters (child_changes emptied p d 1 n) (procs_of seen old)
        → by_path grown ≡ numbered_map (rows_in left.paths.items left.values.items ++ rows_in paths xs)
        → procs_of seen grown ≡ alters (start_changes p b 1 (map seen xs)) (alters (child_changes emptied p d 1 n) (procs_of seen old))
    starts_all emptied old left grown others d n joined started =
        starts_there left grown (λ i. ap (λ m. get m (child p b i)) joined ∙ none_stays emptied (procs_of seen old) p d 1 n (child p b i) (others i)) started
        ∙ ap (alters (start_changes p b 1 (map seen xs))) joined
