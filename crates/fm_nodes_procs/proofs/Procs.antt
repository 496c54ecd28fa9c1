-- Processes as a language sees them.
use Rattle.std.proofs.Common.{◌≡◌, ℕ, suc, ◌≤◌, Bool, Option, Some, None, List, [], ◌∷◌, ◌++◌, length, map, refl, sym, ap, subst, ◌∙◌, append-nil, append_assoc, arith}
use Rattle.std.specs.Prelude.{is_some, option_map, slice_get}
use Rattle.std.specs.List.{zip}
use Rattle.std.specs.FinMap.{empty, get, insert}
use Rattle.fm_finmap.specs.Changes.{alter, alters, put}
use Rattle.fm_finmap.specs.Map.{map_values}
use Rattle.fm_finmap.specs.Rows.{AreDistinct, numbered_map, places}
use Rattle.fm_finmap.proofs.Keys.{path_order}
use Rattle.fm_finmap.proofs.Inserts.{insert_same, insert_there}
use Rattle.fm_finmap.proofs.Alters.{alter_same, alters_past}
use Rattle.fm_finmap.proofs.Maps.{get-map_values, map_values-empty, map_values-insert}
use Rattle.fm_finmap.proofs.Rows.{map-push, places-push, distinct-push, there as row_there}
use Rattle.fm_net.specs.Machine.{Place, child, start_changes}
use Rattle.fm_net.specs.Starts.{child_places}
use Rattle.fm_net.proofs.Children.{other_child, off_starts}
use Rattle.fm_nodes_procs.specs.Processes.{by_path, order_of, procs_of, rows_in}
use Rattle.fm_nodes_procs.proofs.Kept.{absent, places_kept}
use Rattle.fm_nodes_procs.specs.Children.{is_over}
use Rattle.fm_nodes_procs.specs.declared.processes.Processes.{Processes}

module _ {X Proc : Type 0} (seen : X → Proc) where
  pub procs_are : (x : Processes X) → procs_of seen x ≡ map_values seen (by_path x)
  unfolding procs_of
  procs_are x = refl

  -- who is found
  pub there : (x : Processes X) (q : Place) (o : Option X) → o ≡ get (by_path x) q → get (procs_of seen x) q ≡ option_map seen o
  there x q o is = ap (λ m. get m q) (procs_are x) ∙ get-map_values seen (by_path x) q ∙ ap (option_map seen) (sym is)

  pub over_there : (has_ended : Proc → Bool) (x : Processes X) (q : Place) (o : Option X) → o ≡ get (by_path x) q → is_over has_ended (option_map seen o) ≡ is_over has_ended (get (procs_of seen x) q)
  over_there has_ended x q o is = ap (is_over has_ended) (sym (there x q o is))

  -- the same processes
  pub same_procs : (x y : Processes X) → by_path x ≡ by_path y → procs_of seen x ≡ procs_of seen y
  same_procs x y e = procs_are x ∙ ap (map_values seen) e ∙ sym (procs_are y)

  pub no_procs : (x : Processes X) → by_path x ≡ empty → procs_of seen x ≡ empty
  no_procs x e = procs_are x ∙ ap (map_values seen) e ∙ map_values-empty seen

  -- another process at a place
  pub puts_one : (old new : Processes X) (p : Place) (y : X) → by_path new ≡ insert (by_path old) p y → procs_of seen new ≡ insert (procs_of seen old) p (seen y)
  puts_one old new p y e =
      procs_are new ∙ ap (map_values seen) e ∙ map_values-insert seen path_order (by_path old) p y ∙ ap (λ m. insert m p (seen y)) (sym (procs_are old))

  -- one that is changed
  pub changed_there : (old new : Processes X) (p : Place) (x y : X) (f : Proc → Proc) → Some x ≡ get (by_path old) p → by_path new ≡ insert (by_path old) p y → seen y ≡ f (seen x)
      → procs_of seen new ≡ alter (procs_of seen old) p (option_map f)
  unfolding alter
  changed_there old new p x y f is e same =
      puts_one old new p y e ∙ ap (insert (procs_of seen old) p) same ∙ ap (λ o. put (procs_of seen old) p (option_map f o)) (sym (there old p (Some x) is))

  -- one that is as it was
  pub same_there : (old new : Processes X) (p : Place) (x y : X) → Some x ≡ get (by_path old) p → by_path new ≡ insert (by_path old) p y → seen y ≡ seen x → procs_of seen new ≡ procs_of seen old
  same_there old new p x y is e same =
      puts_one old new p y e ∙ ap (insert (procs_of seen old) p) same ∙ insert_same path_order (procs_of seen old) p (seen x) (there old p (Some x) is)

  -- nobody is there to be changed
  pub changed_nobody : (x : Processes X) (p : Place) (f : Proc → Proc) → None ≡ get (by_path x) p → procs_of seen x ≡ alter (procs_of seen x) p (option_map f)
  changed_nobody x p f is = sym (alter_same path_order (procs_of seen x) p (option_map f) (ap (option_map f) (there x p None is) ∙ sym (there x p None is)))

-- rows of the children of a block, from an index on
abbrev pub child_rows : {X : Type 0} → Place → (block index : ℕ) → List X → List (Place × X)
child_rows p b i [] = []
child_rows p b i (x ∷ xs) = (child p b i, x) ∷ child_rows p b (suc i) xs

pub rows_of_children : {X : Type 0} (p : Place) (b i : ℕ) (xs : List X) → zip (child_places p b i (length xs)) xs ≡ child_rows p b i xs
rows_of_children p b i [] = refl
rows_of_children p b i (x ∷ xs) = ap (λ es. (child p b i, x) ∷ es) (rows_of_children p b (suc i) xs)

module _ {X Proc : Type 0} (seen : X → Proc) (p : Place) (b : ℕ) where
  -- children that are put behind the rows, at places where nobody is
  pub children_start : (rows : List (Place × X)) (i : ℕ) (xs : List X) → ((j : ℕ) → i ≤ j → get (numbered_map rows) (child p b j) ≡ None)
      → map_values seen (numbered_map (rows ++ child_rows p b i xs)) ≡ alters (start_changes p b i (map seen xs)) (map_values seen (numbered_map rows))
  unfolding alter
  children_start rows i [] new = ap (λ rs. map_values seen (numbered_map rs)) (append-nil rows)
  children_start rows i (x ∷ xs) new =
      let here : get (numbered_map rows) (child p b i) ≡ None = new i (omega arith) in
      let pushed : numbered_map (rows ++ (child p b i, x) ∷ []) ≡ insert (numbered_map rows) (child p b i) x = map-push rows (child p b i) x here in
      let rest = children_start (rows ++ (child p b i, x) ∷ []) (suc i) xs (λ j far.
      ap (λ m. get m (child p b j)) pushed ∙ insert_there path_order (numbered_map rows) (child p b i) x (child p b j) (other_child p b j i (λ e. omega arith)) ∙ new j (omega arith)) in
      ap (λ rs. map_values seen (numbered_map rs)) (sym (append_assoc rows ((child p b i, x) ∷ []) (child_rows p b (suc i) xs)))
      ∙ rest
      ∙ ap (λ m. alters (start_changes p b (suc i) (map seen xs)) (map_values seen m)) pushed
      ∙ ap (alters (start_changes p b (suc i) (map seen xs))) (map_values-insert seen path_order (numbered_map rows) (child p b i) x)
      ∙ sym (alters_past path_order (start_changes p b (suc i) (map seen xs)) (map_values seen (numbered_map rows)) (child p b i) (λ o. Some (seen x))
      (off_starts (child p b i) p b (suc i) (map seen xs) (λ j far. other_child p b i j (λ e. omega arith))))

module _ {X : Type 0} (p : Place) (b : ℕ) where
  -- their places are new
  pub children_apart : (rows : List (Place × X)) (i : ℕ) (xs : List X) → AreDistinct (places rows) → ((j : ℕ) → i ≤ j → get (numbered_map rows) (child p b j) ≡ None)
      → AreDistinct (places rows ++ child_places p b i (length xs))
  children_apart rows i [] once new = subst AreDistinct (sym (append-nil (places rows))) once
  children_apart rows i (x ∷ xs) once new =
      let here : get (numbered_map rows) (child p b i) ≡ None = new i (omega arith) in
      let pushed : numbered_map (rows ++ (child p b i, x) ∷ []) ≡ insert (numbered_map rows) (child p b i) x = map-push rows (child p b i) x here in
      let grown : places (rows ++ (child p b i, x) ∷ []) ≡ places rows ++ child p b i ∷ [] = places-push rows (child p b i) x in
      let rest = children_apart (rows ++ (child p b i, x) ∷ []) (suc i) xs (subst AreDistinct (sym grown) (distinct-push rows (child p b i) once here)) (λ j far.
      ap (λ m. get m (child p b j)) pushed ∙ insert_there path_order (numbered_map rows) (child p b i) x (child p b j) (other_child p b j i (λ e. omega arith)) ∙ new j (omega arith)) in
      subst AreDistinct (ap (λ ps. ps ++ child_places p b (suc i) (length xs)) grown ∙ append_assoc (places rows) (child p b i ∷ []) (child_places p b (suc i) (length xs))) rest

module _ {X Proc : Type 0} (seen : X → Proc) (x : Processes X) where
  -- who has a number is there
  pub stands : (n : ℕ) (p : Place) → slice_get (order_of x) n ≡ Some p → (y : Proc) × (get (procs_of seen x) p ≡ Some y)
  stands n p at = go (get (by_path x) p) refl
    where
      go : (o : Option X) → get (by_path x) p ≡ o → (y : Proc) × (get (procs_of seen x) p ≡ Some y)
      go None is =
          absurd (cc (sym (row_there (rows_in x.paths.items x.values.items) n p (ap (λ qs. slice_get qs n) (places_kept x.paths.items x.values.items x.rows) ∙ at)) ∙ ap is_some is))
      go (Some s) is = (seen s, there seen x p (Some s) (sym is))

  -- who has no number is nobody
  pub nobody : (q : Place) → ((n : ℕ) → slice_get (order_of x) n ≡ Some q → ⊥) → get (procs_of seen x) q ≡ None
  nobody q none = there seen x q None (sym (absent x.paths.items x.values.items x.rows q none))
