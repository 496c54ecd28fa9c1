-- The list of the cycles has each of them, and nothing else, in order.
use Rattle.std.proofs.Common.{◌≡◌, inl, inr, Bool, true, false, cond, ◌&&◌, T, List, [], ◌∷◌, map, refl, sym, ap, subst, ◌∙◌}
use Rattle.std.specs.Prelude.{◌↔◌, Option, Some, None, option_and_then, Contains}
use Rattle.std.specs.List.{cons_option, filter_map, list_all}
use Rattle.std.specs.Ordering.{is_lt}
use Rattle.std.specs.Cmp.{tied_itself}
use Rattle.std.specs.FinMap as finite
use Rattle.std.specs.FinMap.Entries.{is_sorted}
use Rattle.std.specs.declared.cmp.Ordering.{Ordering}
use Rattle.std.specs.declared.cmp.Ordering.TheVariants.{Less, Equal, Greater}
use Rattle.fm_base.proofs.PathLaws.{path_total}
use Rattle.fm_base.specs.PathOrder.{path_cmp}
use Rattle.fm_wait.specs.Cycles.{AreInOrder, BeginsBefore, IsCycle, IsCycleFrom, cycle_from, cycles_of, from_least, others_on_ring}
use Rattle.fm_wait.specs.Waits.{Pairs, first_waits, next_path}
use Rattle.fm_mean.specs.declared.outcome.Outcome.{Outcome}
use Rattle.fm_mean.specs.declared.outcome.Wait.{Wait}
use Rattle.fm_wait.proofs.Firsts.{below_has, has_get, sorted_head, sorted_tail, stands, waiting}
use Rattle.fm_wait.proofs.Members.{Has, contains_from_has, has_from_contains, has_from_given, has_from_map, has_given, has_map, same_some}
use Rattle.fm_wait.proofs.Standing.{ring_distinct, ring_found, ring_is}
use Rattle.fm_wait.proofs.Ways.{follows_way, way_follows}

-- ---- the least path of a ring

both_true : (a b : Bool) → (a && b) ≡ true → (a ≡ true) × (b ≡ true)
both_true true b e = (refl, e)
both_true false b e = cc

less_so : (r : Ordering) → is_lt r ≡ true → r ≡ Less
less_so Less e = refl
less_so Equal e = cc
less_so Greater e = cc

pub all_less : (p : Pairs) (ps : List Pairs) (q : Pairs) → list_all (λ q. is_lt (path_cmp p q)) ps ≡ true → Has ps q → path_cmp p q ≡ Less
all_less p [] q e h = absurd h
all_less p (x ∷ ps) q e (inl s) = ap (path_cmp p) (sym s) ∙ less_so (path_cmp p x) (both_true (is_lt (path_cmp p x)) _ e).0
all_less p (x ∷ ps) q e (inr h) = all_less p ps q (both_true (is_lt (path_cmp p x)) _ e).1 h

pub less_all : (p : Pairs) (ps : List Pairs) → ((q : Pairs) → Has ps q → path_cmp p q ≡ Less) → list_all (λ q. is_lt (path_cmp p q)) ps ≡ true
less_all p [] n = refl
less_all p (x ∷ ps) n = ap (λ (r : Ordering). is_lt r && list_all (λ q. is_lt (path_cmp p q)) ps) (n x (inl refl)) ∙ less_all p ps (λ q h. n q (inr h))

pub not_before_itself : (p : Pairs) → path_cmp p p ≡ Less → ⊥
not_before_itself p e = cc (sym (tied_itself path_total p) ∙ e)

-- ---- what is listed from a path

pub record IsListedFrom (o : Outcome) (p : Pairs) (c : List Pairs) : Type 0 where
  pub others : List Pairs
  pub is : c ≡ p ∷ others
  pub ring : others_on_ring o p ≡ Some others
  pub least : list_all (λ q. is_lt (path_cmp p q)) others ≡ true

least_so : (o : Outcome) (p : Pairs) (c ps : List Pairs) → others_on_ring o p ≡ Some ps → (b : Bool) → list_all (λ q. is_lt (path_cmp p q)) ps ≡ b → cond b (Some (p ∷ ps)) None ≡ Some c → IsListedFrom o p c
least_so o p c ps r true b e = record { others = ps; is = sym (same_some (p ∷ ps) c e); ring = r; least = b }
least_so o p c ps r false b e = cc

listed_so : (o : Outcome) (p : Pairs) (c : List Pairs) (v : Option (List Pairs)) → others_on_ring o p ≡ v → option_and_then (from_least p) v ≡ Some c → IsListedFrom o p c
listed_so o p c None r e = cc
listed_so o p c (Some ps) r e = least_so o p c ps r (list_all (λ q. is_lt (path_cmp p q)) ps) refl e

pub listed_from : (o : Outcome) (p : Pairs) (c : List Pairs) → cycle_from o p ≡ Some c → IsListedFrom o p c
listed_from o p c e = listed_so o p c (others_on_ring o p) refl e

pub from_listed : (o : Outcome) (p : Pairs) (ps : List Pairs) → others_on_ring o p ≡ Some ps → list_all (λ q. is_lt (path_cmp p q)) ps ≡ true → cycle_from o p ≡ Some (p ∷ ps)
from_listed o p ps r l = ap (option_and_then (from_least p)) r ∙ ap (λ (b : Bool). cond b (Some (p ∷ ps)) None) l

-- ---- each listed list is a cycle

listed_cycle : (o : Outcome) (p : Pairs) (c : List Pairs) → IsListedFrom o p c → IsCycle o c
listed_cycle o p c l =
    let r = ring_is o p l.others l.ring in
    let cycle : IsCycleFrom o p l.others = record {
      distinct = ring_distinct o p r.next l.others r.is_way;
      follow = way_follows (next_path o) p p r.next l.others r.is_next r.is_way;
      least = λ q h. all_less p l.others q l.least (has_from_contains l.others q h);
    } in
    subst (λ (ps : List Pairs). IsCycle o ps) (sym l.is) cycle

each_is_cycle : (o : Outcome) (c : List Pairs) → Contains (cycles_of o) c → IsCycle o c
each_is_cycle o c h =
    let x = has_from_given (cycle_from o) (finite.keys (first_waits o.waits)) c (has_from_contains (cycles_of o) c h) in
    listed_cycle o x.0 c (listed_from o x.0 c x.2)

-- ---- each cycle is listed

waits_in_order : (o : Outcome) (p z : Pairs) → next_path o p ≡ Some z → Has (finite.keys (first_waits o.waits)) p
waits_in_order o p z e =
    let i = waiting o p z e in
    let s = stands o p i.0 i.1 in
    has_map (λ (e : Pairs × Wait). e.0) (finite.entries (first_waits o.waits)) (p, s.wait) (has_get (first_waits o.waits) p s.wait s.waits)

cycle_is_listed : (o : Outcome) (p : Pairs) (ps : List Pairs) → IsCycleFrom o p ps → Contains (cycles_of o) (p ∷ ps)
cycle_is_listed o p ps c =
    let less : (q : Pairs) → Has ps q → path_cmp p q ≡ Less = λ q h. c.least q (contains_from_has ps q h) in
    let w = follows_way (next_path o) p p ps (λ h. not_before_itself p (less p h)) c.follow in
    contains_from_has (cycles_of o) (p ∷ ps)
    (has_given (cycle_from o) (finite.keys (first_waits o.waits)) p (p ∷ ps) (waits_in_order o p w.0 w.1)
    (from_listed o p ps (ring_found o p w.0 ps w.1 w.2) (less_all p ps less)))

each_is_listed : (o : Outcome) (c : List Pairs) → IsCycle o c → Contains (cycles_of o) c
each_is_listed o [] c = absurd c
each_is_listed o (p ∷ ps) c = cycle_is_listed o p ps c

pub exact : (o : Outcome) (c : List Pairs) → Contains (cycles_of o) c ↔ IsCycle o c
exact o c = (each_is_cycle o c, each_is_listed o c)

-- ---- in order

begins_before : (o : Outcome) (p q : Pairs) (c d : List Pairs) → IsListedFrom o p c → IsListedFrom o q d → path_cmp p q ≡ Less → BeginsBefore c d
begins_before o p q c d l m e =
    subst (λ (x : List Pairs). BeginsBefore x d) (sym l.is) (subst (λ (y : List Pairs). BeginsBefore (p ∷ l.others) y) (sym m.is) e)

in_order_so : (o : Outcome) (p : Pairs) (v : Option (List Pairs)) (cs : List (List Pairs)) → cycle_from o p ≡ v
    → ((q : Pairs) (c d : List Pairs) → Has cs d → cycle_from o p ≡ Some c → BeginsBefore c d) → AreInOrder cs → AreInOrder (cons_option v cs)
in_order_so o p None cs is n a = a
in_order_so o p (Some c) cs is n a = (λ d h. n p c d (has_from_contains cs d h) is, a)

in_order : (o : Outcome) (es : List (Pairs × Wait)) → T (is_sorted path_cmp es) → AreInOrder (filter_map (cycle_from o) (map (λ (e : Pairs × Wait). e.0) es))
in_order o [] s = tt
in_order o (e ∷ es) s =
    in_order_so o e.0 (cycle_from o e.0) (filter_map (cycle_from o) (map (λ (e : Pairs × Wait). e.0) es)) refl
    (λ q c d h is.
    let x = has_from_given (cycle_from o) (map (λ (e : Pairs × Wait). e.0) es) d h in
    let y = has_from_map (λ (e : Pairs × Wait). e.0) es x.0 x.1 in
    begins_before o e.0 x.0 c d (listed_from o e.0 c is) (listed_from o x.0 d x.2)
    (ap (path_cmp e.0) (sym y.2) ∙ below_has e.0 es y.0 (sorted_head e es s) y.1))
    (in_order o es (sorted_tail e es s))

pub ordered : (o : Outcome) → AreInOrder (cycles_of o)
ordered o = in_order o (finite.entries (first_waits o.waits)) (finite.entries_sorted (first_waits o.waits))
