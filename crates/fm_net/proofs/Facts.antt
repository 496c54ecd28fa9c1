-- A fact of processes that a step keeps: of itself, of the children that it starts, and of those that it joins.
use Rattle.std.proofs.Common.{◌≡◌, ℕ, zero, suc, Option, Some, None, List, [], ◌∷◌, ◌++◌, Bool, true, false, cond, option_map, refl, sym, ◌∙◌, subst}
use Rattle.std.specs.FinMap.{FinMap, get}
use Rattle.std.specs.Ordering.{eq_by_cmp}
use Rattle.std.specs.declared.cmp.Ordering.{Ordering}
use Rattle.fm_base.specs.Channels.{Chans}
use Rattle.fm_finmap.specs.Keys.{IsKeyOrder}
use Rattle.fm_finmap.specs.Changes.{Change, adjust, alter, alters}
use Rattle.fm_finmap.proofs.Adjusts.{get-adjust}
use Rattle.fm_finmap.proofs.Alters.{get-alter}
use Rattle.fm_net.specs.Machine.{Place, Procs, Need, Nothing, Event, New, Children, Reply, Onward, child, reply_with, gathered, served, start_changes, child_changes, need_changes, changes}
use Rattle.fm_net.specs.Typed.{AllIn}
use Rattle.fm_net.proofs.Keys.{path_order}
use Rattle.fm_net.proofs.Children.{first_gathered, served_children}
use Rattle.fm_net.proofs.Needs.{served_event}

module _ {K X : Type 0} {R : K → K → Ordering} (o : IsKeyOrder R) (Fact : X → Type 0) where
  abbrev pub Each : FinMap R X → Type 0
  Each m = (q : K) (x : X) → get m q ≡ Some x → Fact x

  abbrev pub At : Option X → Type 0
  At v = (x : X) → v ≡ Some x → Fact x

  Each-alter : (m : FinMap R X) (k : K) (f : Option X → Option X) → Each m → ((v : Option X) → At v → At (f v)) → Each (alter m k f)
  Each-alter m k f each keeps q x is = go (eq_by_cmp R q k) (sym (get-alter o m k f q) ∙ is)
    where
      go : (b : Bool) → cond b (f (get m q)) (get m q) ≡ Some x → Fact x
      go true e = keeps (get m q) (each q) x e
      go false e = each q x e

  abbrev pub AllKeep : List (Change K X) → Type 0
  AllKeep [] = Unit {0}
  AllKeep (w ∷ ws) = ((v : Option X) → At v → At (w.1 v)) × AllKeep ws

  pub AllKeep-append : (ws vs : List (Change K X)) → AllKeep ws → AllKeep vs → AllKeep (ws ++ vs)
  AllKeep-append [] vs h g = g
  AllKeep-append (w ∷ ws) vs h g = (h.0, AllKeep-append ws vs h.1 g)

  pub Each-alters : (ws : List (Change K X)) (m : FinMap R X) → AllKeep ws → Each m → Each (alters ws m)
  Each-alters [] m keep each = each
  Each-alters (w ∷ ws) m keep each = Each-alter (alters ws m) w.0 w.1 (Each-alters ws m keep.1 each) keep.0

  -- what holds at a key is kept by a change of what is there
  pub At-adjust : (m : FinMap R X) (k : K) (f : X → X) (q : K) → At (get m q) → ((x : X) → Fact x → Fact (f x)) → At (get (adjust m k f) q)
  At-adjust m k f q at keep x is = go (eq_by_cmp R q k) (get m q) at (sym (get-adjust o m k f q) ∙ is)
    where
      go : (b : Bool) (v : Option X) → At v → cond b (option_map f v) v ≡ Some x → Fact x
      go true None h e = absurd (cc e)
      go true (Some y) h e = let same : f y ≡ x = cc e in subst Fact same (keep y (h y refl))
      go false v h e = h x e

pub the_value : {X : Type 0} (u v : X) → Some u ≡ Some v → u ≡ v
the_value u v e = cc

module _ {Proc : Type 0} (has_ended : Proc → Bool) (emptied : Proc → Proc) (Fact : Proc → Type 0) (empties : (x : Proc) → Fact x → Fact (emptied x)) where
  starts_keep : (p : Place) (b j : ℕ) (xs : List Proc) → AllIn Fact xs → AllKeep path_order Fact (start_changes p b j xs)
  starts_keep p b j [] all = tt
  starts_keep p b j (x ∷ xs) all = ((λ v h y e. subst Fact (the_value x y e) all.0), starts_keep p b (suc j) xs all.1)

  emptied_keeps : (v : Option Proc) → At path_order Fact v → At path_order Fact (option_map emptied v)
  emptied_keeps None h y e = absurd (cc)
  emptied_keeps (Some x) h y e = subst Fact (the_value (emptied x) y e) (empties x (h x refl))

  children_keep : (p : Place) (b i n : ℕ) → AllKeep path_order Fact (child_changes emptied p b i n)
  children_keep p b i zero = tt
  children_keep p b i (suc n) = (emptied_keeps, children_keep p b (suc i) n)

  need_keeps : (p : Place) (need : Need) → AllKeep path_order Fact (need_changes emptied p need)
  need_keeps p Nothing = tt
  need_keeps p (Event c a) = tt
  need_keeps p (New n w) = tt
  need_keeps p (Children b n) = children_keep p b 1 n

  changes_keep : (p : Place) (need : Need) (o : Onward Proc) → Fact o.self → AllIn Fact o.starts → AllKeep path_order Fact (changes emptied p need o)
  changes_keep p need o self starts =
      ((λ v h y e. subst Fact (the_value o.self y e) self), AllKeep-append path_order Fact (start_changes p o.block 1 o.starts) (need_changes emptied p need) (starts_keep p o.block 1 o.starts starts) (need_keeps p need))

  children_fine : (m : Procs Proc) (p : Place) (b i n : ℕ) (ys : List Proc) → Each path_order Fact m → gathered has_ended m p b i n ≡ Some ys → AllIn Fact ys
  children_fine m p b i zero ys each e = subst (AllIn Fact) (the_value [] ys e) tt
  children_fine m p b i (suc n) ys each e =
      let g = first_gathered has_ended m p b i n ys e in
      subst (AllIn Fact) g.all (each (child p b i) g.head g.is, children_fine m p b (suc i) n g.tail each g.others)

  -- the children that a process joins
  pub served_fine : (m : Procs Proc) (cs : Chans) (p : Place) (need : Need) (r : Reply Proc) → Each path_order Fact m → served has_ended m cs p need ≡ Some r → AllIn Fact r.children
  served_fine m cs p Nothing r each e = subst (λ (r : Reply Proc). AllIn Fact r.children) (the_value (reply_with []) r e) tt
  served_fine m cs p (New n w) r each e = subst (λ (r : Reply Proc). AllIn Fact r.children) (the_value (reply_with []) r e) tt
  served_fine m cs p (Event c a) r each e = subst (λ (r : Reply Proc). AllIn Fact r.children) (sym (served_event a (get cs c) r e).3) tt
  served_fine m cs p (Children b n) r each e =
      let k = served_children has_ended m cs p b n r e in
      subst (λ (r : Reply Proc). AllIn Fact r.children) k.2 (children_fine m p b 1 n k.0 each k.1)

  -- all processes after a step
  pub step_fine : (m : Procs Proc) (p : Place) (need : Need) (o : Onward Proc) → Each path_order Fact m → Fact o.self → AllIn Fact o.starts → Each path_order Fact (alters (changes emptied p need o) m)
  step_fine m p need o each self starts = Each-alters path_order Fact (changes emptied p need o) m (changes_keep p need o self starts) each
