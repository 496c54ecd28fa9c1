-- Processes one after the other, in path order.
use Rattle.std.proofs.Common.{Bor, ◌≡◌, ◌+◌, ◌<◌, ◌≤◌, ℕ, List, [], ◌∷◌, ◌++◌, append-nil, get_or, length, map, sym, ap, take, ◌∙◌}
use Rattle.std.specs.List.{flat_map}
use Rattle.std.specs.Map.Iter.{deref_pair}
use Rattle.std.specs.FinMap.{entries}
use Rattle.std.proofs.lemmas.Grind.{flat_map-append}
use Rattle.std.proofs.lemmas.List.{map-append, take_all, take_more}
use Rattle.fm_base.specs.declared.path.Path.{Path}
use Rattle.fm_finmap.proofs.Maps.{entries-map_values}
use Rattle.fm_net.specs.Machine.{Place}
use Rattle.fm_nodes_procs.specs.Processes.{by_path, procs_of}
use Rattle.fm_nodes_procs.specs.declared.processes.Processes.{Processes}
use Rattle.fm_nodes_procs.proofs.Procs.{procs_are}

pub flat_more : {A B : Type 0} (f : A → List B) (xs : List A) (x : A) → flat_map f (xs ++ x ∷ []) ≡ flat_map f xs ++ f x
flat_more f xs x = flat_map-append f xs (x ∷ []) ∙ ap (λ ys. flat_map f xs ++ ys) (append-nil (f x))

module _ {X Proc : Type 0} (seen : X → Proc) where
  -- with each process as the language sees it
  abbrev pub seen_in : List (Place × X) → List (Place × Proc)
  seen_in es = map (λ (e : Place × X). (e.0, seen e.1)) es

  entries_are : (x : Processes X) → entries (procs_of seen x) ≡ seen_in (entries (by_path x))
  entries_are x = ap entries (procs_are seen x) ∙ entries-map_values seen (by_path x)

  module _ (rows : List (Bor Path × Bor X)) (i : ℕ) where
    -- one row more
    pub seen_more : (row : Bor Path × Bor X) → i < length rows → row ≡ get_or rows i row
        → seen_in (map (deref_pair {K = Path} {X = X}) (take (i + 1) rows)) ≡ seen_in (map (deref_pair {K = Path} {X = X}) (take i rows)) ++ (row.0.now, seen row.1.now) ∷ []
    seen_more row within is =
        let show = deref_pair {K = Path} {X = X} in
        ap (λ (rs : List (Bor Path × Bor X)). seen_in (map show rs)) (take_more rows i row within ∙ ap (λ (r : Bor Path × Bor X). take i rows ++ r ∷ []) (sym is))
        ∙ ap seen_in (map-append show (take i rows) (row ∷ []))
        ∙ map-append (λ (e : Place × X). (e.0, seen e.1)) (map show (take i rows)) ((row.0.now, row.1.now) ∷ [])

    -- all of them
    pub seen_all : (x : Processes X) → length rows ≤ i → map (deref_pair {K = Path} {X = X}) rows ≡ entries (by_path x) → seen_in (map (deref_pair {K = Path} {X = X}) (take i rows)) ≡ entries (procs_of seen x)
    seen_all x past all = ap (λ (rs : List (Bor Path × Bor X)). seen_in (map (deref_pair {K = Path} {X = X}) rs)) (take_all i rows past) ∙ ap seen_in all ∙ sym (entries_are x)
