-- Processes kept by path, and the finite map of them.
use Rattle.std.proofs.Common.{◌≡◌, ◌⊎◌, ℕ, inl, inr, Bool, Option, Some, None, List, [], ◌∷◌, ◌++◌, map as map_of_list, refl, sym, ap, subst, ◌∙◌}
use Rattle.std.specs.Prelude.{is_some, option_map}
use Rattle.std.specs.FinMap.{empty, entries, get, get-empty, insert}
use Rattle.fm_base.specs.PathOrder.{path_cmp}
use Rattle.fm_finmap.specs.Changes.{alter, put}
use Rattle.fm_finmap.specs.Map.{map_values}
use Rattle.fm_finmap.proofs.Alters.{alter_same}
use Rattle.fm_finmap.proofs.Inserts.{insert_cases, insert_same}
use Rattle.fm_finmap.proofs.Maps.{entries-map_values, get-map_values, map_values-empty, map_values-insert}
use Rattle.fm_finmap.specs.Rows.{numbered_map, place_at, value_at, value_in}
use Rattle.fm_finmap.proofs.Rows.{there as stands_there}
use Rattle.fm_net.specs.Machine.{Place}
use Rattle.fm_net.proofs.Children.{not_own_child}
use Rattle.fm_net.proofs.Keys.{path_order}
use Rattle.fm_net_procs.specs.declared.entries.Entries.{Entries}
use Rattle.fm_net_procs.specs.declared.entries.Entry.{Entry}
use Rattle.fm_net_procs.specs.Kept.{AreTold, AreToldBut, IsTold}
use Rattle.fm_net_procs.specs.Readings.{ended_at, over_at, over_in, proc_in, procs_of}

-- what is told of a process is told of whoever is the same
pub moved : {X L : Type 0} (IsNext : X → L → Type 0) {y z : X} {l : L} → y ≡ z → IsNext y l → IsNext z l
moved IsNext {l = l} same told = subst (λ v. IsNext v l) same told

module _ {P L : Type 0} where
  -- one path has this process
  abbrev pub Puts : Entries P L → Entries P L → Place → Entry P L → Type 0
  Puts old new k x = numbered_map new.rows ≡ insert (numbered_map old.rows) k x

  -- what is found by its number
  pub found : (x : Entries P L) (n : ℕ) (q : Place) (o : Option (Entry P L)) → place_at x.rows n ≡ Some q → o ≡ value_at x.rows n → o ≡ get (numbered_map x.rows) q
  found x n q o at is = is ∙ ap (value_in (numbered_map x.rows)) at

  -- who is found by a number has a place
  pub placed : (x : Entries P L) (n : ℕ) (s : Entry P L) → Some s ≡ value_at x.rows n → (q : Place) × (place_at x.rows n ≡ Some q)
  placed x n s e = go (place_at x.rows n) refl
    where
      go : (o : Option Place) → place_at x.rows n ≡ o → (q : Place) × (o ≡ Some q)
      go None is = absurd (cc (e ∙ ap (value_in (numbered_map x.rows)) is))
      go (Some q) is = (q, refl)

module _ {P L X : Type 0} (seen : P → X) where
  procs_are : (x : Entries P L) → procs_of seen x ≡ map_values (proc_in seen) (numbered_map x.rows)
  unfolding procs_of
  procs_are x = refl

  pub there : (x : Entries P L) (q : Place) (o : Option (Entry P L)) → o ≡ get (numbered_map x.rows) q → get (procs_of seen x) q ≡ option_map (proc_in seen) o
  there x q o is = ap (λ m. get m q) (procs_are x) ∙ get-map_values (proc_in seen) (numbered_map x.rows) q ∙ ap (option_map (proc_in seen)) (sym is)

  -- who has a number is there
  pub standing : (x : Entries P L) (n : ℕ) (q : Place) → place_at x.rows n ≡ Some q → (y : X) × (get (procs_of seen x) q ≡ Some y)
  standing x n q at = go (get (numbered_map x.rows) q) refl
    where
      go : (o : Option (Entry P L)) → get (numbered_map x.rows) q ≡ o → (y : X) × (get (procs_of seen x) q ≡ Some y)
      go None is = absurd (cc (sym (stands_there x.rows n q at) ∙ ap is_some is))
      go (Some s) is = (proc_in seen s, there x q (Some s) (sym is))

  -- nobody is there
  pub absent : (x : Entries P L) (q : Place) → get (procs_of seen x) q ≡ None → get (numbered_map x.rows) q ≡ None
  absent x q none = go (get (numbered_map x.rows) q) refl
    where
      go : (o : Option (Entry P L)) → get (numbered_map x.rows) q ≡ o → o ≡ None
      go None is = refl
      go (Some s) is = absurd (cc (sym none ∙ there x q (Some s) (sym is)))

  pub puts_one : (old new : Entries P L) (k : Place) (x : Entry P L) → Puts old new k x → procs_of seen new ≡ insert (procs_of seen old) k (proc_in seen x)
  puts_one old new k x puts =
      procs_are new ∙ ap (map_values (proc_in seen)) puts ∙ map_values-insert (proc_in seen) path_order (numbered_map old.rows) k x
      ∙ ap (λ m. insert m k (proc_in seen x)) (sym (procs_are old))

  -- the process stays where what it does next changes alone
  pub puts_same : (old new : Entries P L) (k : Place) (w x : Entry P L) → Some w ≡ get (numbered_map old.rows) k → Puts old new k x → proc_in seen x ≡ proc_in seen w → procs_of seen new ≡ procs_of seen old
  puts_same old new k w x is puts e =
      puts_one old new k x puts ∙ ap (insert (procs_of seen old) k) e ∙ insert_same path_order (procs_of seen old) k (proc_in seen w) (there old k (Some w) is)

  pub none_yet : (x : Entries P L) → numbered_map x.rows ≡ empty → procs_of seen x ≡ empty
  none_yet x e = procs_are x ∙ ap (map_values (proc_in seen)) e ∙ map_values-empty (proc_in seen)

  -- ---- the entries in order

  abbrev pub entries_of : List (Place × Entry P L) → List (Place × X)
  entries_of es = map_of_list (λ e. (e.0, proc_in seen e.1)) es

  pub entries_are : (x : Entries P L) → entries (procs_of seen x) ≡ entries_of (entries (numbered_map x.rows))
  entries_are x = ap entries (procs_are x) ∙ entries-map_values (proc_in seen) (numbered_map x.rows)

  -- ---- who was joined

  module _ (emptied : X → X) where
    -- processes of which one, if it is there, was emptied
    pub emptied_not : (x : Entries P L) (q : Place) → None ≡ get (numbered_map x.rows) q → procs_of seen x ≡ alter (procs_of seen x) q (option_map emptied)
    emptied_not x q is = sym (alter_same path_order (procs_of seen x) q (option_map emptied) (ap (option_map emptied) (there x q None is) ∙ sym (there x q None is)))

    pub emptied_there : (old new : Entries P L) (q : Place) (x y : Entry P L) → Some x ≡ get (numbered_map old.rows) q → Puts old new q y → proc_in seen y ≡ emptied (proc_in seen x)
        → procs_of seen new ≡ alter (procs_of seen old) q (option_map emptied)
    unfolding alter
    emptied_there old new q x y is puts e =
        puts_one old new q y puts ∙ ap (insert (procs_of seen old) q) e ∙ ap (λ o. put (procs_of seen old) q (option_map emptied o)) (sym (there old q (Some x) is))

  -- ---- who has ended

  module _ (over : P → Bool) (has_ended : X → Bool) (ends : (x : P) → has_ended (seen x) ≡ over x) where
    over_told : (o : Option (Entry P L)) → over_at over o ≡ ended_at has_ended (option_map (proc_in seen) o)
    over_told None = refl
    over_told (Some e) = sym (ends e.process)

    pub over_there : (x : Entries P L) (n : ℕ) (q : Place) → place_at x.rows n ≡ Some q → over_in over x n ≡ ended_at has_ended (get (procs_of seen x) q)
    over_there x n q at = over_told (value_at x.rows n) ∙ sym (ap (ended_at has_ended) (there x q (value_at x.rows n) (found x n q (value_at x.rows n) at refl)))

  -- ---- what each process does next

  module _ (IsNext : X → L → Type 0) where
    pub told_none : (x : Entries P L) → numbered_map x.rows ≡ empty → AreTold seen IsNext x
    told_none x e q s is = absurd (cc (sym (get-empty {X = Entry P L} path_cmp q) ∙ ap (λ m. get m q) (sym e) ∙ is))

    pub told_but : (own : Place) (x : Entries P L) → AreTold seen IsNext x → AreToldBut seen IsNext own x
    told_but own x all q s off is = all q s is

    pub told_put : (own : Place) (old new : Entries P L) (k : Place) (x : Entry P L) → Puts old new k x → (k ≡ own) ⊎ IsTold seen IsNext x → AreToldBut seen IsNext own old → AreToldBut seen IsNext own new
    told_put own old new k x puts either but q s off is = elim (insert_cases path_order (numbered_map old.rows) k x q s (ap (λ m. get m q) (sym puts) ∙ is)) [
      | inl here ↦ elim either [
        | inl same ↦ absurd (off (here.0 ∙ same))
        | inr next ↦ subst (λ (v : Entry P L). IsTold seen IsNext v) here.1 next
      ]
      | inr away ↦ but q s off away.1
    ]

    pub told_own : (own : Place) (old new : Entries P L) (x : Entry P L) → Puts old new own x → IsTold seen IsNext x → AreToldBut seen IsNext own old → AreTold seen IsNext new
    told_own own old new x puts next but q s is = elim (insert_cases path_order (numbered_map old.rows) own x q s (ap (λ m. get m q) (sym puts) ∙ is)) [
      | inl here ↦ subst (λ (v : Entry P L). IsTold seen IsNext v) here.1 next
      | inr away ↦ but q s away.0 away.1
    ]

    -- of all processes, where it's so of all but any one
    pub told_all : (x : Entries P L) → ((own : Place) → AreToldBut seen IsNext own x) → AreTold seen IsNext x
    told_all x but q s is = but (q ++ (0, 0) ∷ []) q s (not_own_child q (0, 0)) is

    -- where nobody stands at the place, all are looked at
    pub told_absent : (own : Place) (x : Entries P L) → None ≡ get (numbered_map x.rows) own → AreToldBut seen IsNext own x → AreTold seen IsNext x
    told_absent own x none but q s is = but q s (λ e. absurd (cc (none ∙ ap (get (numbered_map x.rows)) (sym e) ∙ is))) is

    pub told_same : (own : Place) (old new : Entries P L) → numbered_map new.rows ≡ numbered_map old.rows → AreToldBut seen IsNext own old → AreToldBut seen IsNext own new
    told_same own old new e but q s off is = but q s off (ap (λ m. get m q) (sym e) ∙ is)

    pub told_same_all : (old new : Entries P L) → numbered_map new.rows ≡ numbered_map old.rows → AreTold seen IsNext old → AreTold seen IsNext new
    told_same_all old new e all q s is = all q s (ap (λ m. get m q) (sym e) ∙ is)
