-- Processes one after the other, in path order.
use Rattle.std.proofs.Common.{Bor, ◌≡◌, ◌+◌, ◌<◌, ◌≤◌, ℕ, Option, Some, List, [], ◌∷◌, ◌++◌, Bool, true, false, T, ◌&&◌, append-nil, get_or, length, map, refl, sym, ap, take, ◌∙◌}
use Rattle.std.specs.Prelude.{option_map, slice_get}
use Rattle.std.specs.List.{AllByRecursion, flat_map}
use Rattle.std.specs.Map.Iter.{deref_pair}
use Rattle.std.proofs.lemmas.Grind.{flat_map-append}
use Rattle.std.proofs.lemmas.List.{map-append, take_all, take_more}
use Rattle.std.proofs.lemmas.Option.{slice_get-map, slice_get_read}
use Rattle.std.specs.FinMap.{entries, entries_sorted, get-entries}
use Rattle.std.specs.FinMap.Entries.{find, is_sorted}
use Rattle.fm_base.specs.PathOrder.{path_cmp}
use Rattle.fm_base.specs.declared.path.Path.{Path}
use Rattle.fm_finmap.proofs.Entries.{find_first, find_later}
use Rattle.fm_finmap.proofs.Rows.{all_at}
use Rattle.fm_finmap.specs.Rows.{numbered_map}
use Rattle.fm_net.specs.Machine.{Place}
use Rattle.fm_net.proofs.Keys.{path_order}
use Rattle.fm_net_procs.specs.declared.entries.Entries.{Entries}
use Rattle.fm_net_procs.specs.declared.entries.Entry.{Entry}
use Rattle.fm_net_procs.specs.Kept.{AreFamilies, AreTold, HasFamily, IsTold}
use Rattle.fm_net_procs.specs.Readings.{order_of, proc_in, procs_of}
use Rattle.fm_net_procs.proofs.Maps.{entries_are, entries_of}

snd : (a b : Bool) → T (a && b) → T b
snd true b p = p
snd false b p = absurd p

module _ {P L X : Type 0} (seen : P → X) (IsNext : X → L → Type 0) (awaits : X → Option (ℕ × ℕ)) where
  -- what each of them does next is told, and its children
  abbrev pub IsListed : Entries P L → Place × Entry P L → Type 0
  IsListed x e = IsTold seen IsNext e.1 × HasFamily (order_of x) e.0 (awaits (proc_in seen e.1)) e.1.first_child

  abbrev pub EachListed : Entries P L → List (Place × Entry P L) → Type 0
  EachListed x es = AllByRecursion (IsListed x) es

  sorted_tail : (e : Place × Entry P L) (es : List (Place × Entry P L)) → T (is_sorted path_cmp (e ∷ es)) → T (is_sorted path_cmp es)
  sorted_tail e es h = snd _ _ h

  each_listed : (x : Entries P L) (es : List (Place × Entry P L)) → T (is_sorted path_cmp es) → ((q : Place) (s : Entry P L) → find path_cmp q es ≡ Some s → IsListed x (q, s)) → EachListed x es
  each_listed x [] h all = tt
  each_listed x (e ∷ es) h all =
      (all e.0 e.1 (find_first path_order e es), each_listed x es (sorted_tail e es h) (λ q s is. all q s (find_later path_order e es h q s is)))

  pub listed : (x : Entries P L) → AreTold seen IsNext x → AreFamilies seen awaits x → EachListed x (entries (numbered_map x.rows))
  listed x next families =
      each_listed x (entries (numbered_map x.rows)) (entries_sorted (numbered_map x.rows)) (λ q s is.
      let at = get-entries (numbered_map x.rows) q ∙ is in (next q s at, families q s at))

  -- one of the rows as they are shown
  pub row_listed : (rows : List (Bor Path × Bor (Entry P L))) (i : ℕ) (row : Bor Path × Bor (Entry P L)) → i < length rows → row ≡ get_or rows i row
      → (x : Entries P L) → AreTold seen IsNext x → AreFamilies seen awaits x → map (deref_pair {K = Path} {X = Entry P L}) rows ≡ entries (numbered_map x.rows) → IsListed x (row.0.now, row.1.now)
  row_listed rows i row within is x next families all =
      let show = deref_pair {K = Path} {X = Entry P L} in
      all_at (IsListed x) (entries (numbered_map x.rows)) i (row.0.now, row.1.now) (listed x next families)
      (ap (λ (es : List (Place × Entry P L)). slice_get es i) (sym all) ∙ slice_get-map show rows i ∙ ap (option_map show) (slice_get_read rows (length rows) i row refl within is))

-- ---- rows as they are shown, one after the other

pub flat_more : {A B : Type 0} (f : A → List B) (xs : List A) (x : A) → flat_map f (xs ++ x ∷ []) ≡ flat_map f xs ++ f x
flat_more f xs x = flat_map-append f xs (x ∷ []) ∙ ap (λ ys. flat_map f xs ++ ys) (append-nil (f x))

module _ {P L X : Type 0} (seen : P → X) (rows : List (Bor Path × Bor (Entry P L))) (i : ℕ) where
  pub entries_more : (row : Bor Path × Bor (Entry P L)) → i < length rows → row ≡ get_or rows i row
      → entries_of seen (map (deref_pair {K = Path} {X = Entry P L}) (take (i + 1) rows)) ≡ entries_of seen (map (deref_pair {K = Path} {X = Entry P L}) (take i rows)) ++ (row.0.now, proc_in seen row.1.now) ∷ []
  entries_more row within is =
      let show = deref_pair {K = Path} {X = Entry P L} in
      ap (λ (rs : List (Bor Path × Bor (Entry P L))). entries_of seen (map show rs)) (take_more rows i row within ∙ ap (λ (r : Bor Path × Bor (Entry P L)). take i rows ++ r ∷ []) (sym is))
      ∙ ap (entries_of seen) (map-append show (take i rows) (row ∷ []))
      ∙ map-append (λ (e : Place × Entry P L). (e.0, proc_in seen e.1)) (map show (take i rows)) ((row.0.now, row.1.now) ∷ [])

  pub entries_all : (x : Entries P L) → length rows ≤ i → map (deref_pair {K = Path} {X = Entry P L}) rows ≡ entries (numbered_map x.rows) → entries_of seen (map (deref_pair {K = Path} {X = Entry P L}) (take i rows)) ≡ entries (procs_of seen x)
  entries_all x past all =
      ap (λ (rs : List (Bor Path × Bor (Entry P L))). entries_of seen (map (deref_pair {K = Path} {X = Entry P L}) rs)) (take_all i rows past) ∙ ap (entries_of seen) all ∙ sym (entries_are seen x)
