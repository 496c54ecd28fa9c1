-- The children of blocks, by their numbers.
use Rattle.std.proofs.Common.{◌≡◌, ◌+◌, ◌<◌, ℕ, zero, suc, inl, inr, Option, Some, None, List, [], ◌∷◌, ◌++◌, length, sym, ap, subst, ◌∙◌, arith}
use Rattle.std.specs.Prelude.{slice_get}
use Rattle.std.specs.FinMap.{empty, get, get-empty}
use Rattle.fm_base.specs.PathOrder.{path_cmp}
use Rattle.fm_finmap.proofs.Inserts.{insert_cases}
use Rattle.fm_finmap.proofs.Keys.{decide}
use Rattle.fm_finmap.specs.Rows.{numbered_map}
use Rattle.fm_net.specs.Machine.{Place, child}
use Rattle.fm_net.specs.Starts.{child_places}
use Rattle.fm_net.proofs.Children.{not_own_child}
use Rattle.fm_net.proofs.Keys.{path_order}
use Rattle.fm_net_procs.specs.declared.entries.Entries.{Entries}
use Rattle.fm_net_procs.specs.declared.entries.Entry.{Entry}
use Rattle.fm_net_procs.specs.Kept.{AreChildren, AreFamilies, AreFamiliesBut, HasFamily}
use Rattle.fm_net_procs.specs.Readings.{order_of, proc_in, procs_of}
use Rattle.fm_net_procs.proofs.Maps.{Puts, there}

-- who is there stays there
pub there_more : (ps more : List Place) (n : ℕ) (q : Place) → slice_get ps n ≡ Some q → slice_get (ps ++ more) n ≡ Some q
there_more [] more n q is = absurd (cc is)
there_more (p ∷ ps) more zero q is = is
there_more (p ∷ ps) more (suc n) q is = there_more ps more n q is

pub children_stay : (ps more : List Place) (first : ℕ) (p : Place) (b n : ℕ) → AreChildren ps first p b n → AreChildren (ps ++ more) first p b n
children_stay ps more first p b n all i low = there_more ps more (first + i) (child p b (i + 1)) (all i low)

pub family_stays : (ps more : List Place) (p : Place) (awaited : Option (ℕ × ℕ)) (first : ℕ) → HasFamily ps p awaited first → HasFamily (ps ++ more) p awaited first
family_stays ps more p awaited first has b n is = children_stay ps more first p b n (has b n is)

-- the number of a child
pub child_number : (ps now : List Place) → now ≡ ps → (first : ℕ) (p : Place) (b count : ℕ) → AreChildren ps first p b count → (i n : ℕ) → i < count → n ≡ first + i → slice_get now n ≡ Some (child p b (i + 1))
child_number ps now same first p b count all i n low is = ap (λ (qs : List Place). slice_get qs n) same ∙ ap (slice_get ps) is ∙ all i low

-- who doesn't wait has no family to tell
pub awaits_nobody : (ps : List Place) (p : Place) (awaited : Option (ℕ × ℕ)) (first : ℕ) → awaited ≡ None → HasFamily ps p awaited first
awaits_nobody ps p awaited first none b n is = absurd (cc (sym none ∙ is))

pub family_kept : (ps : List Place) (p : Place) (before after : Option (ℕ × ℕ)) (first : ℕ) → after ≡ before → HasFamily ps p before first → HasFamily ps p after first
family_kept ps p before after first same has b n is = has b n (sym same ∙ is)

-- the children that start stand behind all others
placed_child : (p : Place) (b j n i : ℕ) → i < n → slice_get (child_places p b j n) i ≡ Some (child p b (i + j))
placed_child p b j zero i low = absurd (omega (arith, low))
placed_child p b j (suc n) zero low = ap (λ (k : ℕ). Some (child p b k)) (omega arith)
placed_child p b j (suc n) (suc i) low = placed_child p b (suc j) n i (omega (arith, low)) ∙ ap (λ (k : ℕ). Some (child p b k)) (omega arith)

behind : (ps qs : List Place) (i : ℕ) → slice_get (ps ++ qs) (length ps + i) ≡ slice_get qs i
behind [] qs i = let e : 0 + i ≡ i = omega arith in ap (slice_get qs) e
behind (p ∷ ps) qs i = let e : suc (length ps) + i ≡ suc (length ps + i) = omega arith in ap (slice_get (p ∷ (ps ++ qs))) e ∙ behind ps qs i

pub children_behind : (ps : List Place) (first : ℕ) (p : Place) (b n : ℕ) → first ≡ length ps → AreChildren (ps ++ child_places p b 1 n) first p b n
children_behind ps first p b n is i low = ap (λ (k : ℕ). slice_get (ps ++ child_places p b 1 n) (k + i)) is ∙ behind ps (child_places p b 1 n) i ∙ placed_child p b 1 n i low

module _ {P L X : Type 0} (seen : P → X) (awaits : X → Option (ℕ × ℕ)) where
  pub families_none : (x : Entries P L) → numbered_map x.rows ≡ empty → AreFamilies seen awaits x
  families_none x e q s is = absurd (cc (sym (get-empty {X = Entry P L} path_cmp q) ∙ ap (λ m. get m q) (sym e) ∙ is))

  -- one process changed, and its family is that of before, or told
  pub families_put : (old new : Entries P L) (k : Place) (x : Entry P L) → Puts old new k x → order_of new ≡ order_of old → HasFamily (order_of old) k (awaits (proc_in seen x)) x.first_child → AreFamilies seen awaits old → AreFamilies seen awaits new
  families_put old new k x puts same has all q s is = elim (insert_cases path_order (numbered_map old.rows) k x q s (ap (λ m. get m q) (sym puts) ∙ is)) [
    | inl here ↦
        let told : HasFamily (order_of new) k (awaits (proc_in seen x)) x.first_child = subst (λ (ps : List Place). HasFamily ps k (awaits (proc_in seen x)) x.first_child) (sym same) has in
        subst (λ (v : Entry P L). HasFamily (order_of new) q (awaits (proc_in seen v)) v.first_child) here.1
        (subst (λ (r : Place). HasFamily (order_of new) r (awaits (proc_in seen x)) x.first_child) (sym here.0) told)
    | inr away ↦ subst (λ (ps : List Place). HasFamily ps q (awaits (proc_in seen s)) s.first_child) (sym same) (all q s away.1)
  ]

  -- the same of those but one
  pub families_put_but : (own : Place) (old new : Entries P L) (x : Entry P L) → Puts old new own x → order_of new ≡ order_of old → AreFamiliesBut seen awaits own old → AreFamiliesBut seen awaits own new
  families_put_but own old new x puts same but q s off is = elim (insert_cases path_order (numbered_map old.rows) own x q s (ap (λ m. get m q) (sym puts) ∙ is)) [
    | inl here ↦ absurd (off here.0)
    | inr away ↦ subst (λ (ps : List Place). HasFamily ps q (awaits (proc_in seen s)) s.first_child) (sym same) (but q s off away.1)
  ]

  -- a process more
  pub families_push : (own : Place) (old new : Entries P L) (k : Place) (x : Entry P L) → Puts old new k x → order_of new ≡ order_of old ++ k ∷ [] → HasFamily (order_of new) k (awaits (proc_in seen x)) x.first_child → AreFamiliesBut seen awaits own old → AreFamiliesBut seen awaits own new
  families_push own old new k x puts more has but q s off is = elim (insert_cases path_order (numbered_map old.rows) k x q s (ap (λ m. get m q) (sym puts) ∙ is)) [
    | inl here ↦
        subst (λ (v : Entry P L). HasFamily (order_of new) q (awaits (proc_in seen v)) v.first_child) here.1
        (subst (λ (r : Place). HasFamily (order_of new) r (awaits (proc_in seen x)) x.first_child) (sym here.0) has)
    | inr away ↦
        subst (λ (ps : List Place). HasFamily ps q (awaits (proc_in seen s)) s.first_child) (sym more)
        (family_stays (order_of old) (k ∷ []) q (awaits (proc_in seen s)) s.first_child (but q s off away.1))
  ]

  pub families_but : (own : Place) (x : Entries P L) → AreFamilies seen awaits x → AreFamiliesBut seen awaits own x
  families_but own x all q s off is = all q s is

  pub families_same : (old new : Entries P L) → numbered_map new.rows ≡ numbered_map old.rows → order_of new ≡ order_of old → AreFamilies seen awaits old → AreFamilies seen awaits new
  families_same old new e same all q s is =
      subst (λ (ps : List Place). HasFamily ps q (awaits (proc_in seen s)) s.first_child) (sym same) (all q s (ap (λ m. get m q) (sym e) ∙ is))

  -- and the one process doesn't wait
  pub families_close : (own : Place) (x : Entries P L) (y : X) → get (procs_of seen x) own ≡ Some y → awaits y ≡ None → AreFamiliesBut seen awaits own x → AreFamilies seen awaits x
  families_close own x y at none but q s is = go (decide path_order q own)
    where
      go : Dec (q ≡ own) → HasFamily (order_of x) q (awaits (proc_in seen s)) s.first_child
      go (yes e) =
          let same : proc_in seen s ≡ y = cc (sym (there seen x own (Some s) (sym (ap (get (numbered_map x.rows)) (sym e) ∙ is))) ∙ at) in
          awaits_nobody (order_of x) q (awaits (proc_in seen s)) s.first_child (ap awaits same ∙ none)
      go (no n) = but q s n is

  -- of all processes, where it's so of all but any one
  pub all_families : (x : Entries P L) → ((own : Place) → AreFamiliesBut seen awaits own x) → AreFamilies seen awaits x
  all_families x but q s is = but (q ++ (0, 0) ∷ []) q s (not_own_child q (0, 0)) is

  -- a process that waits for the children that it started
  pub families_started : (own : Place) (x : Entries P L) (y : X) (ps : List Place) (block n first : ℕ) → order_of x ≡ ps ++ child_places own block 1 n → first ≡ length ps
      → ((s : Entry P L) → get (numbered_map x.rows) own ≡ Some s → (s.first_child ≡ first) × (proc_in seen s ≡ y)) → ((b k : ℕ) → awaits y ≡ Some (b, k) → (b ≡ block) × (k ≡ n)) → AreFamiliesBut seen awaits own x → AreFamilies seen awaits x
  families_started own x y ps block n first order first_is here waits but q s is = go (decide path_order q own)
    where
      at_own : (s : Entry P L) → get (numbered_map x.rows) own ≡ Some s → HasFamily (order_of x) own (awaits (proc_in seen s)) s.first_child
      at_own s is b k joins =
          let h = here s is in
          let w = waits b k (sym (ap awaits h.1) ∙ joins) in
          subst (λ (qs : List Place). AreChildren qs s.first_child own b k) (sym order)
          (subst (λ (j : ℕ). AreChildren (ps ++ child_places own block 1 n) s.first_child own b j) (sym w.1)
          (subst (λ (j : ℕ). AreChildren (ps ++ child_places own block 1 n) s.first_child own j n) (sym w.0) (children_behind ps s.first_child own block n (h.0 ∙ first_is))))

      go : Dec (q ≡ own) → HasFamily (order_of x) q (awaits (proc_in seen s)) s.first_child
      go (yes e) = subst (λ (r : Place). HasFamily (order_of x) r (awaits (proc_in seen s)) s.first_child) (sym e) (at_own s (ap (get (numbered_map x.rows)) (sym e) ∙ is))
      go (no n) = but q s n is
