-- Opening a frame lets nothing go, where the unit has room for its arguments.
use Rattle.std.proofs.Common.{◌≡◌, ℕ, zero, suc, ℤ, ◌+◌, ◌<◌, ◌≤◌, ◌==◌, Bool, true, false, cond, Option, Some, None, List, [], ◌∷◌, ◌++◌, length, replicate, slice_get, refl, sym, ap, ◌∙◌, subst, arith, eqb-true}
use Rattle.fm_base.specs.declared.port.PortValue.{PortValue}
use Rattle.fm_base.specs.Channels.{Item, Words, Ports}
use Rattle.fm_symbols.specs.declared.names.Variable.{Variable}
use Rattle.fm_mean.specs.Names.{ProgramUnit, formal_from, formal_place, all_unset}
use Rattle.fm_mean.specs.declared.place.Actual.{Actual}
use Rattle.fm_mean.specs.declared.place.Actual.TheVariants.{Given, Taken}
use Rattle.fm_mean.specs.Places.{items_at, ports_in, written_from, exchanged, exchange, exchange_all, live, taken_ports, Returned}
use Rattle.fm_mean.specs.Calls.{entered_one, entered_all, entered}
use Rattle.fm_mean.specs.Opening.{element_in, AreNull, HaveRoom, Admits}

-- ---- what an exchange gives, and what it leaves

the_port : (a b : Option PortValue) → Some a ≡ Some b → a ≡ b
the_port a b e = cc

exchanged_gives : (qs : List (Option PortValue)) (k : ℕ) (p q : Option PortValue) → slice_get qs k ≡ Some q → (exchanged qs k p).1 ≡ q
exchanged_gives [] k p q e = absurd (cc)
exchanged_gives (r ∷ qs) zero p q e = the_port r q e
exchanged_gives (r ∷ qs) (suc k) p q e = exchanged_gives qs k p q e

gives : (vs : List Item) (i k : ℕ) (p q : Option PortValue) → element_in vs i k ≡ Some q → (exchange vs i k p).1 ≡ q
gives [] i k p q e = absurd (cc)
gives (Words ws ∷ vs) zero k p q e = absurd (cc)
gives (Ports qs ∷ vs) zero k p q e = exchanged_gives qs k p q e
gives (v ∷ vs) (suc i) k p q e = gives vs i k p q e

exchanged_leaves : (qs : List (Option PortValue)) (k j : ℕ) (p : Option PortValue) → k < j → slice_get (exchanged qs k p).0 j ≡ slice_get qs j
exchanged_leaves [] k j p h = refl
exchanged_leaves (q ∷ qs) k zero p h = absurd (omega (arith, h))
exchanged_leaves (q ∷ qs) zero (suc j) p h = refl
exchanged_leaves (q ∷ qs) (suc k) (suc j) p h = exchanged_leaves qs k j p (omega (arith, h))

leaves : (vs : List Item) (i k j : ℕ) (p : Option PortValue) → k < j → element_in (exchange vs i k p).0 i j ≡ element_in vs i j
leaves [] i k j p h = refl
leaves (Words ws ∷ vs) zero k j p h = refl
leaves (Ports qs ∷ vs) zero k j p h = exchanged_leaves qs k j p h
leaves (v ∷ vs) (suc i) k j p h = leaves vs i k j p h

-- another variable stays as it is
elsewhere : (vs : List Item) (i j k : ℕ) (p : Option PortValue) → (i ≡ j → ⊥) → items_at (exchange vs i k p).0 j ≡ items_at vs j
elsewhere [] i j k p off = refl
elsewhere (v ∷ vs) zero zero k p off = absurd (off refl)
elsewhere (v ∷ vs) zero (suc j) k p off = refl
elsewhere (v ∷ vs) (suc i) zero k p off = refl
elsewhere (v ∷ vs) (suc i) (suc j) k p off = elsewhere vs i j k p (λ e. off (ap suc e))

all_elsewhere : (vs : List Item) (i j k : ℕ) (ps : List (Option PortValue)) → (i ≡ j → ⊥) → items_at (exchange_all vs i k ps).0 j ≡ items_at vs j
all_elsewhere vs i j k [] off = refl
all_elsewhere vs i j k (p ∷ ps) off = all_elsewhere (exchange vs i k p).0 i j (suc k) ps off ∙ elsewhere vs i j k p off

written_elsewhere : (vs : List Item) (i j k : ℕ) (ns : List ℤ) → (i ≡ j → ⊥) → items_at (written_from vs i k ns) j ≡ items_at vs j
written_elsewhere [] i j k ns off = refl
written_elsewhere (v ∷ vs) zero zero k ns off = absurd (off refl)
written_elsewhere (v ∷ vs) zero (suc j) k ns off = refl
written_elsewhere (v ∷ vs) (suc i) zero k ns off = refl
written_elsewhere (v ∷ vs) (suc i) (suc j) k ns off = written_elsewhere vs i j k ns (λ e. off (ap suc e))

-- ---- NULLs

null_behind : (vs : List Item) (i k : ℕ) (p : Option PortValue) (j n : ℕ) → k < j → AreNull vs i j n → AreNull (exchange vs i k p).0 i j n
null_behind vs i k p j zero h all = tt
null_behind vs i k p j (suc n) h all = (leaves vs i k j p h ∙ all.0, null_behind vs i k p (suc j) n (omega (arith, h)) all.1)

null_as : (vs ws : List Item) (i k n : ℕ) → items_at ws i ≡ items_at vs i → AreNull vs i k n → AreNull ws i k n
null_as vs ws i k zero same all = tt
null_as vs ws i k (suc n) same all = (ap (λ v. slice_get (ports_in v) k) same ∙ all.0, null_as vs ws i (suc k) n same all.1)

live_none : (p : Option PortValue) (ps : List (Option PortValue)) → p ≡ None → live ps ≡ [] → live (p ∷ ps) ≡ []
live_none None ps e h = h
live_none (Some z) ps e h = absurd (cc)

none_out : (vs : List Item) (i k : ℕ) (ps : List (Option PortValue)) → AreNull vs i k (length ps) → live (exchange_all vs i k ps).1 ≡ []
none_out vs i k [] all = refl
none_out vs i k (p ∷ ps) all =
    live_none (exchange vs i k p).1 (exchange_all (exchange vs i k p).0 i (suc k) ps).1 (gives vs i k p None all.0)
    (none_out (exchange vs i k p).0 i (suc k) ps (null_behind vs i k p (suc k) (length ps) (omega arith) all.1))

out_length : (vs : List Item) (i k : ℕ) (ps : List (Option PortValue)) → length (exchange_all vs i k ps).1 ≡ length ps
out_length vs i k [] = refl
out_length vs i k (p ∷ ps) = ap suc (out_length (exchange vs i k p).0 i (suc k) ps)

nulls_length : (n : ℕ) → length (replicate {A = Option PortValue} n None) ≡ n
nulls_length zero = refl
nulls_length (suc n) = ap suc (nulls_length n)

-- ---- formals stand at places of their own

from_on : (i n : ℕ) (vs : List Variable) → i ≤ formal_from i n vs
from_on i n [] = omega arith
from_on i n (v ∷ vs) = go (v.formal == n) (from_on (suc i) n vs)
  where
    go : (b : Bool) → suc i ≤ formal_from (suc i) n vs → i ≤ cond b i (formal_from (suc i) n vs)
    go true on = omega arith
    go false on = omega (arith, on)

apart_from : (i n m : ℕ) (vs : List Variable) → formal_from i n vs ≡ formal_from i m vs → formal_from i m vs < i + length vs → n ≡ m
apart_from i n m [] e h = absurd (omega (arith, h))
apart_from i n m (v ∷ vs) e h = go (v.formal == n) refl (v.formal == m) refl e h (λ e' h'. apart_from (suc i) n m vs e' (omega (arith, h')))
  where
    go : (a : Bool) → v.formal == n ≡ a → (b : Bool) → v.formal == m ≡ b → cond a i (formal_from (suc i) n vs) ≡ cond b i (formal_from (suc i) m vs) → cond b i (formal_from (suc i) m vs) < i + length (v ∷ vs)
        → (formal_from (suc i) n vs ≡ formal_from (suc i) m vs → formal_from (suc i) m vs < i + length (v ∷ vs) → n ≡ m) → n ≡ m
    go true is true at e' h' rest = sym (eqb-true v.formal n is) ∙ eqb-true v.formal m at
    go true is false at e' h' rest = absurd (omega (arith, e', from_on (suc i) m vs))
    go false is true at e' h' rest = absurd (omega (arith, e', from_on (suc i) n vs))
    go false is false at e' h' rest = rest e' h'

apart : (u : ProgramUnit) (n m : ℕ) → n < m → formal_place u m < length u.names.variables → formal_place u n ≡ formal_place u m → ⊥
apart u n m less there e = let same : n ≡ m = apart_from 0 n m u.names.variables e (omega (arith, there)) in absurd (omega (arith, less, same))

-- ---- opening

-- what changes one formal leaves room for those behind it
room_kept : (u : ProgramUnit) (n m : ℕ) (vs ws : List Item) (args : List Actual) → n < m → ((j : ℕ) → (formal_place u n ≡ j → ⊥) → items_at ws j ≡ items_at vs j) → HaveRoom u m vs args → HaveRoom u m ws args
room_kept u n m vs ws [] less same room = tt
room_kept u n m vs ws (Given ns back ∷ more) less same room = room_kept u n (suc m) vs ws more (omega (arith, less)) same room
room_kept u n m vs ws (Taken s ∷ more) less same room = (
  room.0,
  null_as vs ws (formal_place u m) 0 s.count (same (formal_place u m) (apart u n m less room.0)) room.1,
  room_kept u n (suc m) vs ws more (omega (arith, less)) same room.2,
)

both_nil : (xs ys : List PortValue) → xs ≡ [] → ys ≡ [] → xs ++ ys ≡ []
both_nil xs ys e h = ap (λ zs. zs ++ ys) e ∙ h

nothing_goes : (u : ProgramUnit) (n : ℕ) (args : List Actual) (r : Returned) → HaveRoom u n r.theirs args → r.drops ≡ [] → (entered_all u n args r).drops ≡ []
nothing_goes u n [] r room none = none
nothing_goes u n (Given ws back ∷ more) r room none =
    nothing_goes u (suc n) more (entered_one u n (Given ws back) r)
    (room_kept u n (suc n) r.theirs (written_from r.theirs (formal_place u n) 0 ws) more (omega arith) (λ j off. written_elsewhere r.theirs (formal_place u n) j 0 ws off) room) none
nothing_goes u n (Taken s ∷ more) r room none =
    let ps = (taken_ports r.mine s).1 in
    let count : length ps ≡ s.count = out_length r.mine s.variable s.first (replicate s.count None) ∙ nulls_length s.count in
    let i = formal_place u n in
    nothing_goes u (suc n) more (entered_one u n (Taken s) r)
    (room_kept u n (suc n) r.theirs (exchange_all r.theirs i 0 ps).0 more (omega arith) (λ j off. all_elsewhere r.theirs i j 0 ps off) room.2)
    (both_nil r.drops (live (exchange_all r.theirs i 0 ps).1) none (none_out r.theirs i 0 ps (subst (AreNull r.theirs i 0) (sym count) room.1)))

pub opening_drops_nothing : (u : ProgramUnit) (mine : List Item) (args : List Actual) → Admits u args → (entered u mine args).drops ≡ []
opening_drops_nothing u mine args room = nothing_goes u 1 args (record { mine = mine; theirs = all_unset u.names.variables; drops = [] }) room refl
