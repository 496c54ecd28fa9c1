-- Where the ports of a frame stand: what is taken from a variable, written beside or put back keeps a fact of each place, and
-- a unit that is entered gets ports of the variables that are its arguments, and no others.
use Rattle.std.proofs.lemmas.Bool.Decides.{nat_tests}
use Rattle.std.proofs.Common.{◌≡◌, ℕ, zero, suc, cond, ap₂, ◌||◌, ◌&&◌, ◌==◌, ◌+◌, ◌<◌, ◌≤◌, Bool, true, false, Option, Some, None, List, [], ◌∷◌, length, refl, sym, ap, ◌∙◌, subst, arith}
use Rattle.std.specs.Prelude.{replicate, ℤ}
use Rattle.fm_base.specs.declared.port.PortValue.{PortValue}
use Rattle.fm_base.specs.Channels.{Item, Words, Ports, item_ports, message_ports}
use Rattle.fm_base.specs.declared.port.PortValue.TheVariants.{Writer, Reader}
use Rattle.fm_finmap.proofs.Keys.{tie, tie_self}
use Rattle.fm_net.proofs.Keys.{channel_order}
use Rattle.fm_net.specs.Owned.{count, one, same_channel, same_port}
use Rattle.fm_flow_law.specs.Flow.{is_among}
use Rattle.fm_net.proofs.Counts.{count-append, count-cons, count-nil}
use Rattle.fm_tree.specs.declared.port_type.Kind.{Kind}
use Rattle.fm_tree.specs.declared.port_type.Kind.TheVariants as kind
use Rattle.fm_symbols.specs.declared.names.Variable.{Variable}
use Rattle.fm_mean.specs.Names.{ProgramUnit, all_unset, unset, formal_place}
use Rattle.fm_mean.specs.declared.place.Actual.{Actual}
use Rattle.fm_mean.specs.declared.place.Actual.TheVariants.{Given, Taken}
use Rattle.fm_mean.specs.declared.place.Span.{Span}
use Rattle.fm_mean.specs.Places.{written_from, item_written, exchanged, item_exchanged, exchange, exchange_all, ports_in, taken_ports, placed_all, put_port, Returned}
use Rattle.fm_mean.specs.Calls.{entered_one, entered_all, entered}

abbrev pub May : (PortValue → Type 0) → Option PortValue → Type 0
May Q None = Unit {0}
May Q (Some z) = Q z

abbrev pub Every : (PortValue → Type 0) → List (Option PortValue) → Type 0
Every Q [] = Unit {0}
Every Q (p ∷ ps) = May Q p × Every Q ps

abbrev pub StandIn : (PortValue → Type 0) → Item → Type 0
StandIn Q (Words ws) = Unit {0}
StandIn Q (Ports ps) = Every Q ps

-- the fact of each variable's place, from this one on
abbrev pub Stand : (ℕ → PortValue → Type 0) → ℕ → List Item → Type 0
Stand P i [] = Unit {0}
Stand P i (x ∷ xs) = StandIn (P i) x × Stand P (suc i) xs

exchanged_every : (Q : PortValue → Type 0) (ps : List (Option PortValue)) (k : ℕ) (p : Option PortValue) → Every Q ps → May Q p → Every Q (exchanged ps k p).0 × May Q (exchanged ps k p).1
exchanged_every Q [] k p h m = (tt, m)
exchanged_every Q (q ∷ qs) zero p h m = ((m, h.1), h.0)
exchanged_every Q (q ∷ qs) (suc k) p h m = let r = exchanged_every Q qs k p h.1 m in ((h.0, r.0), r.1)

item_stands : (Q : PortValue → Type 0) (x : Item) (k : ℕ) (p : Option PortValue) → StandIn Q x → May Q p → StandIn Q (item_exchanged x k p).0 × May Q (item_exchanged x k p).1
item_stands Q (Words ws) k p h m = (tt, m)
item_stands Q (Ports ps) k p h m = exchanged_every Q ps k p h m

exchange_stands : (P : ℕ → PortValue → Type 0) (i : ℕ) (vs : List Item) (n k : ℕ) (p : Option PortValue) (j : ℕ) → j ≡ i + n → Stand P i vs → May (P j) p → Stand P i (exchange vs n k p).0 × May (P j) (exchange vs n k p).1
exchange_stands P i [] n k p j at h m = (tt, m)
exchange_stands P i (x ∷ xs) zero k p j at h m =
    let here : j ≡ i = omega (arith, at) in
    let r = item_stands (P i) x k p h.0 (subst (λ a. May (P a) p) here m) in
    ((r.0, h.1), subst (λ a. May (P a) (item_exchanged x k p).1) (sym here) r.1)
exchange_stands P i (x ∷ xs) (suc n) k p j at h m = let r = exchange_stands P (suc i) xs n k p j (omega (arith, at)) h.1 m in ((h.0, r.0), r.1)

all_stand : (P : ℕ → PortValue → Type 0) (vs : List Item) (n k : ℕ) (ps : List (Option PortValue)) → Stand P 0 vs → Every (P n) ps → Stand P 0 (exchange_all vs n k ps).0 × Every (P n) (exchange_all vs n k ps).1
all_stand P vs n k [] h m = (h, tt)
all_stand P vs n k (p ∷ ps) h m =
    let first = exchange_stands P 0 vs n k p n (omega arith) h m.0 in
    let others = all_stand P (exchange vs n k p).0 n (suc k) ps first.0 m.1 in
    (others.0, (first.1, others.1))

no_ports : (Q : PortValue → Type 0) (n : ℕ) → Every Q (replicate n None)
no_ports Q zero = tt
no_ports Q (suc n) = (tt, no_ports Q n)

-- what is taken from a variable stood there, and what stays has its place
pub taken_stand : (P : ℕ → PortValue → Type 0) (vs : List Item) (s : Span) → Stand P 0 vs → Stand P 0 (taken_ports vs s).0 × Every (P s.variable) (taken_ports vs s).1
taken_stand P vs s h = all_stand P vs s.variable s.first (replicate s.count None) h (no_ports (P s.variable) s.count)

written_in : (Q : PortValue → Type 0) (x : Item) (k : ℕ) (ns : List ℤ) → StandIn Q x → StandIn Q (item_written x k ns)
written_in Q (Words ws) k ns h = tt
written_in Q (Ports ps) k ns h = h

-- words that are written move no port
pub written_stand : (P : ℕ → PortValue → Type 0) (i : ℕ) (vs : List Item) (n k : ℕ) (ns : List ℤ) → Stand P i vs → Stand P i (written_from vs n k ns)
written_stand P i [] n k ns h = tt
written_stand P i (x ∷ xs) zero k ns h = (written_in (P i) x k ns h.0, h.1)
written_stand P i (x ∷ xs) (suc n) k ns h = (h.0, written_stand P (suc i) xs n k ns h.1)

unset_in : (Q : PortValue → Type 0) (k : Kind) (n : ℕ) → StandIn Q (unset k n)
unset_in Q kind.Integer n = tt
unset_in Q kind.Logical n = tt
unset_in Q (kind.In t) n = no_ports Q n
unset_in Q (kind.Out t) n = no_ports Q n

pub unset_stand : (P : ℕ → PortValue → Type 0) (i : ℕ) (vs : List Variable) → Stand P i (all_unset vs)
unset_stand P i [] = tt
unset_stand P i (v ∷ vs) = (unset_in (P i) v.kind v.words, unset_stand P (suc i) vs)

every_else : (Q R : PortValue → Type 0) (ps : List (Option PortValue)) → ((z : PortValue) → Q z → R z) → Every Q ps → Every R ps
every_else Q R [] f h = tt
every_else Q R (None ∷ ps) f h = (tt, every_else Q R ps f h.1)
every_else Q R (Some z ∷ ps) f h = (f z h.0, every_else Q R ps f h.1)

module _ (P : ℕ → PortValue → Type 0) (Q : PortValue → Type 0) where
  -- ports of the variables that are taken are such ones
  abbrev pub TakesOwn : Actual → Type 0
  TakesOwn (Given ws back) = Unit {0}
  TakesOwn (Taken s) = (z : PortValue) → P s.variable z → Q z

  abbrev pub AllTakeOwn : List Actual → Type 0
  AllTakeOwn [] = Unit {0}
  AllTakeOwn (a ∷ more) = TakesOwn a × AllTakeOwn more

  abbrev pub Sides : Returned → Type 0
  Sides r = Stand P 0 r.mine × Stand (λ i. Q) 0 r.theirs

  one_entered : (u : ProgramUnit) (n : ℕ) (a : Actual) (r : Returned) → TakesOwn a → Sides r → Sides (entered_one u n a r)
  one_entered u n (Given ws back) r own h = (h.0, written_stand (λ i. Q) 0 r.theirs (formal_place u n) 0 ws h.1)
  one_entered u n (Taken s) r own h =
      let t = taken_stand P r.mine s h.0 in
      let e = all_stand (λ i. Q) r.theirs (formal_place u n) 0 (taken_ports r.mine s).1 h.1 (every_else (P s.variable) Q (taken_ports r.mine s).1 own t.1) in
      (t.0, e.0)

  all_entered : (u : ProgramUnit) (n : ℕ) (args : List Actual) (r : Returned) → AllTakeOwn args → Sides r → Sides (entered_all u n args r)
  all_entered u n [] r own h = h
  all_entered u n (a ∷ more) r own h = all_entered u (suc n) more (entered_one u n a r) own.1 (one_entered u n a r own.0 h)

  -- who starts keeps ports at their places, and gives to the start those of its arguments
  pub entered_stand : (u : ProgramUnit) (vs : List Item) (args : List Actual) → AllTakeOwn args → Stand P 0 vs → Stand P 0 (entered u vs args).mine × Stand (λ i. Q) 0 (entered u vs args).theirs
  entered_stand u vs args own h = all_entered u 1 args (record { mine = vs; theirs = all_unset u.names.variables; drops = [] }) own (h, unset_stand (λ i. Q) 0 u.names.variables)

-- ---- facts of places, joined and weakened

pub stand_else : (P R : ℕ → PortValue → Type 0) (i : ℕ) (vs : List Item) → ((j : ℕ) (z : PortValue) → P j z → R j z) → Stand P i vs → Stand R i vs
stand_else P R i [] f h = tt
stand_else P R i (Words ws ∷ xs) f h = (tt, stand_else P R (suc i) xs f h.1)
stand_else P R i (Ports ps ∷ xs) f h = (every_else (P i) (R i) ps (f i) h.0, stand_else P R (suc i) xs f h.1)

every_both : (P R : PortValue → Type 0) (ps : List (Option PortValue)) → Every P ps → Every R ps → Every (λ z. P z × R z) ps
every_both P R [] h g = tt
every_both P R (None ∷ ps) h g = (tt, every_both P R ps h.1 g.1)
every_both P R (Some z ∷ ps) h g = ((h.0, g.0), every_both P R ps h.1 g.1)

pub stand_both : (P R : ℕ → PortValue → Type 0) (i : ℕ) (vs : List Item) → Stand P i vs → Stand R i vs → Stand (λ j z. P j z × R j z) i vs
stand_both P R i [] h g = tt
stand_both P R i (Words ws ∷ xs) h g = (tt, stand_both P R (suc i) xs h.1 g.1)
stand_both P R i (Ports ps ∷ xs) h g = (every_both (P i) (R i) ps h.0 g.0, stand_both P R (suc i) xs h.1 g.1)

-- ports that are put each at a place where it may stand
abbrev pub MayPut : (ℕ → PortValue → Type 0) → List Span → List PortValue → Type 0
MayPut P ss [] = Unit {0}
MayPut P [] (z ∷ zs) = Unit {0}
MayPut P (s ∷ ss) (z ∷ zs) = P s.variable z × MayPut P ss zs

pub placed_stand : (P : ℕ → PortValue → Type 0) (vs : List Item) (ss : List Span) (zs : List PortValue) → MayPut P ss zs → Stand P 0 vs → Stand P 0 (placed_all vs ss zs).0
placed_stand P vs ss [] may h = h
placed_stand P vs [] (z ∷ zs) may h = h
placed_stand P vs (s ∷ ss) (z ∷ zs) may h =
    placed_stand P (put_port vs s (Some z)).0 ss zs may.1 (exchange_stands P 0 vs s.variable s.first (Some z) s.variable (omega arith) h may.0).0

-- ---- variables of one element

-- each variable has one place for a port at most
abbrev pub AreNarrow : List Item → Type 0
AreNarrow [] = Unit {0}
AreNarrow (x ∷ xs) = (length (ports_in x) ≤ 1) × AreNarrow xs

exchanged_length : (ps : List (Option PortValue)) (k : ℕ) (p : Option PortValue) → length (exchanged ps k p).0 ≡ length ps
exchanged_length [] k p = refl
exchanged_length (q ∷ ps) zero p = refl
exchanged_length (q ∷ ps) (suc k) p = ap suc (exchanged_length ps k p)

item_narrow : (x : Item) (k : ℕ) (p : Option PortValue) → length (ports_in x) ≤ 1 → length (ports_in (item_exchanged x k p).0) ≤ 1
item_narrow (Words ws) k p h = h
item_narrow (Ports ps) k p h = let same = exchanged_length ps k p in omega (arith, same, h)

exchange_narrow : (vs : List Item) (n k : ℕ) (p : Option PortValue) → AreNarrow vs → AreNarrow (exchange vs n k p).0
exchange_narrow [] n k p h = tt
exchange_narrow (x ∷ xs) zero k p h = (item_narrow x k p h.0, h.1)
exchange_narrow (x ∷ xs) (suc n) k p h = (h.0, exchange_narrow xs n k p h.1)

-- no port stands there
abbrev pub Elsewhere : ℕ → ℕ → PortValue → Type 0
Elsewhere n i z = i ≡ n → ⊥

all_elsewhere : (n i : ℕ) (vs : List Item) → (n < i) → Stand (Elsewhere n) i vs
all_elsewhere n i [] l = tt
all_elsewhere n i (Words ws ∷ xs) l = (tt, all_elsewhere n (suc i) xs (omega (arith, l)))
all_elsewhere n i (Ports ps ∷ xs) l = (off ps, all_elsewhere n (suc i) xs (omega (arith, l)))
  where
    off : (ps : List (Option PortValue)) → Every (Elsewhere n i) ps
    off [] = tt
    off (None ∷ ps) = (tt, off ps)
    off (Some z ∷ ps) = ((λ e. absurd (omega (arith, l, e))), off ps)

item_emptied : (n i : ℕ) (x : Item) → length (ports_in x) ≤ 1 → StandIn (Elsewhere n i) (item_exchanged x 0 None).0
item_emptied n i (Words ws) h = tt
item_emptied n i (Ports []) h = tt
item_emptied n i (Ports (q ∷ [])) h = (tt, tt)
item_emptied n i (Ports (q ∷ r ∷ ps)) h = absurd (omega (arith, h))

every_off : (n i : ℕ) (ps : List (Option PortValue)) → (i ≡ n → ⊥) → Every (Elsewhere n i) ps
every_off n i [] h = tt
every_off n i (None ∷ ps) h = (tt, every_off n i ps h)
every_off n i (Some z ∷ ps) h = (h, every_off n i ps h)

-- the one place of a variable is emptied
exchange_empties : (i : ℕ) (vs : List Item) (n : ℕ) → AreNarrow vs → Stand (Elsewhere (i + n)) i (exchange vs n 0 None).0
exchange_empties i [] n h = tt
exchange_empties i (x ∷ xs) zero h = (item_emptied (i + 0) i x h.0, all_elsewhere (i + 0) (suc i) xs (omega arith))
exchange_empties i (Words ws ∷ xs) (suc n) h = let same : suc i + n ≡ i + suc n = omega arith in (tt, subst (λ m. Stand (Elsewhere m) (suc i) (exchange xs n 0 None).0) same (exchange_empties (suc i) xs n h.1))
exchange_empties i (Ports ps ∷ xs) (suc n) h =
    let same : suc i + n ≡ i + suc n = omega arith in
    (every_off (i + suc n) i ps (λ e. absurd (omega (arith, e))), subst (λ m. Stand (Elsewhere m) (suc i) (exchange xs n 0 None).0) same (exchange_empties (suc i) xs n h.1))

-- a whole variable of one element
abbrev pub IsWhole : Span → Type 0
IsWhole s = (s.first ≡ 0) × (s.count ≡ 1)

abbrev pub taken_variables : List Actual → List ℕ
taken_variables [] = []
taken_variables (Given ws back ∷ more) = taken_variables more
taken_variables (Taken s ∷ more) = s.variable ∷ taken_variables more

abbrev pub AllWhole : List Actual → Type 0
AllWhole [] = Unit {0}
AllWhole (Given ws back ∷ more) = AllWhole more
AllWhole (Taken s ∷ more) = IsWhole s × AllWhole more

taken_is : (vs : List Item) (s : Span) → IsWhole s → (taken_ports vs s).0 ≡ (exchange vs s.variable 0 None).0
taken_is vs s h =
    ap (λ (c : ℕ). (exchange_all vs s.variable s.first (replicate c None)).0) h.1 ∙ ap (λ (k : ℕ). (exchange_all vs s.variable k (replicate 1 None)).0) h.0

-- what keeps a fact of each place, whatever is taken
keeps_all : (P : ℕ → PortValue → Type 0) (u : ProgramUnit) (n : ℕ) (args : List Actual) (r : Returned) → Stand P 0 r.mine → Stand P 0 (entered_all u n args r).mine
keeps_all P u n [] r h = h
keeps_all P u n (Given ws back ∷ more) r h = keeps_all P u (suc n) more (entered_one u n (Given ws back) r) h
keeps_all P u n (Taken s ∷ more) r h = keeps_all P u (suc n) more (entered_one u n (Taken s) r) (taken_stand P r.mine s h).0

pub entered_keeps : (P : ℕ → PortValue → Type 0) (u : ProgramUnit) (vs : List Item) (args : List Actual) → Stand P 0 vs → Stand P 0 (entered u vs args).mine
entered_keeps P u vs args h = keeps_all P u 1 args (record { mine = vs; theirs = all_unset u.names.variables; drops = [] }) h

-- no port is left in the variables that were taken
abbrev pub Left : List ℕ → ℕ → PortValue → Type 0
Left taken i z = is_among i taken ≡ false

left_more : (v : ℕ) (taken : List ℕ) (i : ℕ) (z : PortValue) → Elsewhere v i z × Left taken i z → Left (v ∷ taken) i z
left_more v taken i z h = go (v == i) refl
  where
    equal_by : (a b : ℕ) → (a == b) ≡ true → a ≡ b
    equal_by a b e = grind (arith, nat_tests, e)

    go : (b : Bool) → (v == i) ≡ b → (b || is_among i taken) ≡ false
    go false e = h.1
    go true e = absurd (h.0 (sym (equal_by v i e)))

leaves_none : (u : ProgramUnit) (n : ℕ) (args : List Actual) (r : Returned) → AllWhole args → AreNarrow r.mine → Stand (Left (taken_variables args)) 0 (entered_all u n args r).mine
leaves_none u n [] r whole narrow = stand_none 0 r.mine
  where
    every_none : (i : ℕ) (ps : List (Option PortValue)) → Every (Left [] i) ps
    every_none i [] = tt
    every_none i (None ∷ ps) = (tt, every_none i ps)
    every_none i (Some z ∷ ps) = (refl, every_none i ps)

    stand_none : (i : ℕ) (vs : List Item) → Stand (Left []) i vs
    stand_none i [] = tt
    stand_none i (Words ws ∷ vs) = (tt, stand_none (suc i) vs)
    stand_none i (Ports ps ∷ vs) = (every_none i ps, stand_none (suc i) vs)
leaves_none u n (Given ws back ∷ more) r whole narrow = leaves_none u (suc n) more (entered_one u n (Given ws back) r) whole narrow
leaves_none u n (Taken s ∷ more) r whole narrow =
    let next = entered_one u n (Taken s) r in
    let here = taken_is r.mine s whole.0 in
    let plus : 0 + s.variable ≡ s.variable = omega arith in
    let emptied = subst (λ (n : ℕ). Stand (Elsewhere n) 0 (exchange r.mine s.variable 0 None).0) plus (exchange_empties 0 r.mine s.variable narrow) in
    let off : Stand (Elsewhere s.variable) 0 next.mine = subst (Stand (Elsewhere s.variable) 0) (sym here) emptied in
    let others = leaves_none u (suc n) more next whole.1 (subst AreNarrow (sym here) (exchange_narrow r.mine s.variable 0 None narrow)) in
    let mine = (entered_all u (suc n) more next).mine in
    stand_else (λ i z. Elsewhere s.variable i z × Left (taken_variables more) i z) (Left (s.variable ∷ taken_variables more)) 0 mine (left_more s.variable (taken_variables more))
    (stand_both (Elsewhere s.variable) (Left (taken_variables more)) 0 mine (keeps_all (Elsewhere s.variable) u (suc n) more next off) others)

pub entered_leaves : (u : ProgramUnit) (vs : List Item) (args : List Actual) → AllWhole args → AreNarrow vs → Stand (Left (taken_variables args)) 0 (entered u vs args).mine
entered_leaves u vs args whole narrow = leaves_none u 1 args (record { mine = vs; theirs = all_unset u.names.variables; drops = [] }) whole narrow

-- ---- what is held stands somewhere

no_port : {Q : Type 0} (z : PortValue) → 1 ≤ count z [] → Q
no_port z c = let none = count-nil z in absurd (omega (arith, c, none))

-- where this fact refuses the port, it isn't there
every_none : (Q : PortValue → Type 0) (ps : List (Option PortValue)) (z : PortValue) → ((y : PortValue) → Q y → one y z ≡ 0) → Every Q ps → count z (item_ports (Ports ps)) ≡ 0
every_none Q [] z off h = count-nil z
every_none Q (None ∷ ps) z off h = every_none Q ps z off h.1
every_none Q (Some y ∷ ps) z off h = let first = count-cons z y (item_ports (Ports ps)) in let here = off y h.0 in let more = every_none Q ps z off h.1 in omega (arith, first, here, more)

pub stand_none : (P : ℕ → PortValue → Type 0) (i : ℕ) (vs : List Item) (z : PortValue) → ((j : ℕ) (y : PortValue) → P j y → one y z ≡ 0) → Stand P i vs → count z (message_ports vs) ≡ 0
stand_none P i [] z off h = count-nil z
stand_none P i (Words ws ∷ vs) z off h = stand_none P (suc i) vs z off h.1
stand_none P i (Ports ps ∷ vs) z off h =
    let both = count-append z (item_ports (Ports ps)) (message_ports vs) in
    let here = every_none (P i) ps z (off i) h.0 in
    let more = stand_none P (suc i) vs z off h.1 in
    omega (arith, both, here, more)

port_is : (y z : PortValue) → same_port y z ≡ true → y ≡ z
port_is (Writer c w) (Writer d v) e = writer_is (same_channel c d) refl e
  where
    number_is : (a b : ℕ) → (a == b) ≡ true → a ≡ b
    number_is a b e = grind (arith, nat_tests, e)

    writer_is : (b : Bool) → same_channel c d ≡ b → (b && (w == v)) ≡ true → Writer c w ≡ Writer d v
    writer_is true at e' = let same : c ≡ d = tie channel_order c d at in let number : w ≡ v = number_is w v e' in ap₂ (λ a n. Writer a n) same number
    writer_is false at e' = absurd (cc e')
port_is (Writer c w) (Reader d) e = absurd (cc e)
port_is (Reader c) (Writer d v) e = absurd (cc e)
port_is (Reader c) (Reader d) e = ap (λ a. Reader a) (tie channel_order c d e)

every_found : (Q : PortValue → Type 0) (ps : List (Option PortValue)) (z : PortValue) → Every Q ps → 1 ≤ count z (item_ports (Ports ps)) → Q z
unfolding one
every_found Q [] z h c = no_port z c
every_found Q (None ∷ ps) z h c = every_found Q ps z h.1 c
every_found Q (Some y ∷ ps) z h c = go (same_port y z) refl (subst (λ n. 1 ≤ n) (count-cons z y (item_ports (Ports ps))) c) (λ l. every_found Q ps z h.1 l)
  where
    go : (b : Bool) → same_port y z ≡ b → 1 ≤ cond b 1 0 + count z (item_ports (Ports ps)) → (1 ≤ count z (item_ports (Ports ps)) → Q z) → Q z
    go true e c' rest = subst Q (port_is y z e) h.0
    go false e c' rest = rest (omega (arith, c'))

-- a port that is held stands somewhere
pub stand_found : (P : ℕ → PortValue → Type 0) (i : ℕ) (vs : List Item) (z : PortValue) → Stand P i vs → 1 ≤ count z (message_ports vs) → (j : ℕ) × P j z
stand_found P i [] z h c = no_port z c
stand_found P i (Words ws ∷ vs) z h c = stand_found P (suc i) vs z h.1 c
stand_found P i (Ports ps ∷ vs) z h c = go (count z (item_ports (Ports ps))) refl (λ l. stand_found P (suc i) vs z h.1 l)
  where
    go : (n : ℕ) → count z (item_ports (Ports ps)) ≡ n → (1 ≤ count z (message_ports vs) → (j : ℕ) × P j z) → (j : ℕ) × P j z
    go zero e rest = let both = count-append z (item_ports (Ports ps)) (message_ports vs) in rest (omega (arith, both, c, e))
    go (suc n) e rest = (i, every_found (P i) ps z h.0 (omega (arith, e)))

-- ---- facts of ports that are held

same_self : (z : PortValue) → same_port z z ≡ true
same_self (Writer c w) = both (same_channel c c) (tie_self channel_order c) (same_number w)
  where
    same_number : (n : ℕ) → (n == n) ≡ true
    same_number n = grind (arith, nat_tests)

    both : (b : Bool) → b ≡ true → (w == w) ≡ true → (b && (w == w)) ≡ true
    both true e h = h
    both false e h = absurd (cc e)
same_self (Reader c) = tie_self channel_order c

one_self : (z : PortValue) → one z z ≡ 1
unfolding one
one_self z = ap (λ (b : Bool). cond {A = ℕ} b 1 0) (same_self z)

every_held : (P R : PortValue → Type 0) (ps : List (Option PortValue)) → ((z : PortValue) → 1 ≤ count z (item_ports (Ports ps)) → P z → R z) → Every P ps → Every R ps
every_held P R [] f h = tt
every_held P R (None ∷ ps) f h = (tt, every_held P R ps f h.1)
every_held P R (Some z ∷ ps) f h = (
  f z (let first = count-cons z z (item_ports (Ports ps)) in let self = one_self z in omega (arith, first, self)) h.0,
  every_held P R ps (λ y c. f y (let first = count-cons y z (item_ports (Ports ps)) in omega (arith, first, c))) h.1,
)

pub stand_held : (P R : ℕ → PortValue → Type 0) (i : ℕ) (vs : List Item) → ((j : ℕ) (z : PortValue) → 1 ≤ count z (message_ports vs) → P j z → R j z) → Stand P i vs → Stand R i vs
stand_held P R i [] f h = tt
stand_held P R i (Words ws ∷ xs) f h = (tt, stand_held P R (suc i) xs f h.1)
stand_held P R i (Ports ps ∷ xs) f h = (
  every_held (P i) (R i) ps (λ z c. f i z (let both = count-append z (item_ports (Ports ps)) (message_ports xs) in omega (arith, both, c))) h.0,
  stand_held P R (suc i) xs (λ j z c. f j z (let both = count-append z (item_ports (Ports ps)) (message_ports xs) in omega (arith, both, c))) h.1,
)
