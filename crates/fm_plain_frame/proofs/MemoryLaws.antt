-- What a word put into memory is to the values of the variables.
use Rattle.std.proofs.Common.{◌≡◌, ℕ, zero, suc, ℤ, ◌+◌, ◌<◌, ◌≤◌, Bool, true, false, cond, nat_lt, Option, Some, None, List, [], ◌∷◌, length, map, take, drop, set, get_or, slice_get, refl, sym, ap, arith, ◌∙◌}
use Rattle.std.proofs.lemmas.List.{take-set-le, drop-set-lt, drop-set-add, map-set, set_past, length-take, get_or-take, get_or-drop, get_or_past, length-map}
use Rattle.std.proofs.Math.ListN.{get_or-map}
use Rattle.std.proofs.lemmas.Bool.Decides.{nat_tests}
use Rattle.fm_base.specs.declared.port.PortValue.{PortValue}
use Rattle.fm_base.specs.Channels.{Item, Words, Ports}
use Rattle.fm_tree.specs.declared.port_type.Kind.{Kind}
use Rattle.fm_tree.specs.declared.port_type.Kind.TheVariants as kind
use Rattle.fm_symbols.specs.declared.names.Variable.{Variable}
use Rattle.fm_mean.specs.Layout.{AreLaidOut}
use Rattle.fm_mean.specs.Places.{items_at, words_in, ports_in, overwritten, item_written, written_from, exchanged, item_exchanged, exchange}
use Rattle.fm_plain_frame.specs.declared.word.Word.{Word}
use Rattle.fm_plain_frame.specs.declared.word.Word.TheVariants.{Number}
use Rattle.fm_plain_frame.specs.Memory.{number_in, port_in, port_word, holds_ports, item_by, item_in, values_of, word_place, put_in, out_of}

-- Items.

-- what a place has where it is a variable, and where it is none
abbrev pub item_or : List Word → Option Variable → Item
item_or m None = Words []
item_or m (Some v) = item_in m v

pub items_at-values : (vs : List Variable) (m : List Word) (i : ℕ) → items_at (values_of vs m) i ≡ item_or m (slice_get vs i)
items_at-values [] m i = refl
items_at-values (v ∷ vs) m zero = refl
items_at-values (v ∷ vs) m (suc i) = items_at-values vs m i

-- an item for each variable
pub length-values : (vs : List Variable) (m : List Word) → length (values_of vs m) ≡ length vs
length-values vs m = length-map vs (item_in m)

pub words_in-item_by : (k : Kind) (ws : List Word) → words_in (item_by k ws) ≡ cond (holds_ports k) [] (map number_in ws)
words_in-item_by kind.Integer ws = refl
words_in-item_by kind.Logical ws = refl
words_in-item_by (kind.In t) ws = refl
words_in-item_by (kind.Out t) ws = refl

pub ports_in-item_by : (k : Kind) (ws : List Word) → ports_in (item_by k ws) ≡ cond (holds_ports k) (map port_in ws) []
ports_in-item_by kind.Integer ws = refl
ports_in-item_by kind.Logical ws = refl
ports_in-item_by (kind.In t) ws = refl
ports_in-item_by (kind.Out t) ws = refl

-- Where a change comes to.

-- beyond the variables nothing is written
pub written_nowhere : (vs : List Variable) (m : List Word) (i k : ℕ) (ns : List ℤ) → slice_get vs i ≡ None → written_from (values_of vs m) i k ns ≡ values_of vs m
written_nowhere [] m i k ns e = refl
written_nowhere (v ∷ vs) m zero k ns e = absurd (cc)
written_nowhere (v ∷ vs) m (suc i) k ns e = ap (λ l. item_in m v ∷ l) (written_nowhere vs m i k ns e)

pub exchanged_nowhere : (vs : List Variable) (m : List Word) (i k : ℕ) (p : Option PortValue) → slice_get vs i ≡ None → exchange (values_of vs m) i k p ≡ (values_of vs m, p)
exchanged_nowhere [] m i k p e = refl
exchanged_nowhere (v ∷ vs) m zero k p e = absurd (cc)
exchanged_nowhere (v ∷ vs) m (suc i) k p e = ap (λ r. (item_in m v ∷ r.0, r.1)) (exchanged_nowhere vs m i k p e)

same_variable : (v w : Variable) → Some v ≡ Some w → v ≡ w
same_variable v w e = cc

-- at a variable its item is written
pub written_at : (vs : List Variable) (m : List Word) (i k : ℕ) (ns : List ℤ) (v : Variable) → slice_get vs i ≡ Some v → written_from (values_of vs m) i k ns ≡ set (values_of vs m) i (item_written (item_in m v) k ns)
written_at [] m i k ns v e = absurd (cc)
written_at (w ∷ vs) m zero k ns v e = ap (λ x. item_written (item_in m x) k ns ∷ values_of vs m) (same_variable w v e)
written_at (w ∷ vs) m (suc i) k ns v e = ap (λ l. item_in m w ∷ l) (written_at vs m i k ns v e)

pub exchanged_at : (vs : List Variable) (m : List Word) (i k : ℕ) (p : Option PortValue) (v : Variable) → slice_get vs i ≡ Some v
    → exchange (values_of vs m) i k p ≡ (set (values_of vs m) i (item_exchanged (item_in m v) k p).0, (item_exchanged (item_in m v) k p).1)
exchanged_at [] m i k p v e = absurd (cc)
exchanged_at (w ∷ vs) m zero k p v e = ap (λ x. ((item_exchanged (item_in m x) k p).0 ∷ values_of vs m, (item_exchanged (item_in m x) k p).1)) (same_variable w v e)
exchanged_at (w ∷ vs) m (suc i) k p v e = ap (λ r. (item_in m w ∷ r.0, r.1)) (exchanged_at vs m i k p v e)

-- One word.

take-set-all : (n : ℕ) (ws : List Word) (e : ℕ) (w : Word) → take n (set ws e w) ≡ set (take n ws) e w
take-set-all zero ws e w = refl
take-set-all (suc n) [] e w = refl
take-set-all (suc n) (x ∷ ws) zero w = refl
take-set-all (suc n) (x ∷ ws) (suc e) w = ap (λ l. x ∷ l) (take-set-all n ws e w)

-- the words of a variable, with a word at one of its elements
pub words_with : (m : List Word) (v : Variable) (e : ℕ) (w : Word) → take v.words (drop v.first (set m (v.first + e) w)) ≡ set (take v.words (drop v.first m)) e w
words_with m v e w = ap (take v.words) (drop-set-add v.first m e w) ∙ take-set-all v.words (drop v.first m) e w

-- a word before a variable
before : (m : List Word) (v : Variable) (k : ℕ) (w : Word) → k < v.first → item_in (set m k w) v ≡ item_in m v
before m v k w less = ap (λ l. item_by v.kind (take v.words l)) (drop-set-lt v.first m k w less)

take-drop-set : (n f : ℕ) (m : List Word) (k : ℕ) (w : Word) → f + n ≤ k → take n (drop f (set m k w)) ≡ take n (drop f m)
take-drop-set n zero m k w le = take-set-le n m k w (omega (arith, le))
take-drop-set n (suc f) [] k w le = refl
take-drop-set n (suc f) (x ∷ m) zero w le = absurd (omega (arith, le))
take-drop-set n (suc f) (x ∷ m) (suc k) w le = take-drop-set n f m k w (omega (arith, le))

-- a word behind it
behind : (m : List Word) (v : Variable) (k : ℕ) (w : Word) → v.first + v.words ≤ k → item_in (set m k w) v ≡ item_in m v
behind m v k w le = ap (item_by v.kind) (take-drop-set v.words v.first m k w le)

-- a word before all variables
all_before : (n : ℕ) (vs : List Variable) (m : List Word) (k : ℕ) (w : Word) → AreLaidOut n vs → k < n → values_of vs (set m k w) ≡ values_of vs m
all_before n [] m k w laid less = refl
all_before n (v ∷ vs) m k w laid less =
    ap (λ x. x ∷ values_of vs (set m k w)) (before m v k w (omega (arith, laid.0)))
    ∙ ap (λ l. item_in m v ∷ l) (all_before (n + v.words) vs m k w laid.1 (omega (arith, less)))

-- a variable begins at the first word or behind it
begins_behind : (n : ℕ) (vs : List Variable) (i : ℕ) (v : Variable) → AreLaidOut n vs → slice_get vs i ≡ Some v → n ≤ v.first
begins_behind n [] i v laid e = absurd (cc)
begins_behind n (w ∷ vs) zero v laid e = omega (arith, laid.0, ap (λ x. x.first) (same_variable w v e))
begins_behind n (w ∷ vs) (suc i) v laid e = omega (arith, begins_behind (n + w.words) vs i v laid.1 e)

-- a word at an element of a variable changes that variable alone
at_variable : (n : ℕ) (vs : List Variable) (m : List Word) (i e : ℕ) (w : Word) (v : Variable) → AreLaidOut n vs → slice_get vs i ≡ Some v → e < v.words
    → values_of vs (set m (v.first + e) w) ≡ set (values_of vs m) i (item_by v.kind (set (take v.words (drop v.first m)) e w))
at_variable n [] m i e w v laid is less = absurd (cc)
at_variable n (u ∷ vs) m zero e w v laid is less =
    let same : u ≡ v = same_variable u v is in
    ap (λ x. item_in (set m (v.first + e) w) x ∷ values_of vs (set m (v.first + e) w)) same
    ∙ ap (λ x. x ∷ values_of vs (set m (v.first + e) w)) (ap (item_by v.kind) (words_with m v e w))
    ∙ ap (λ l. item_by v.kind (set (take v.words (drop v.first m)) e w) ∷ l)
    (all_before (n + u.words) vs m (v.first + e) w laid.1 (omega (arith, laid.0, less, ap (λ x. x.first) same, ap (λ x. x.words) same)))
at_variable n (u ∷ vs) m (suc i) e w v laid is less =
    let later = begins_behind (n + u.words) vs i v laid.1 is in
    ap (λ x. x ∷ values_of vs (set m (v.first + e) w)) (behind m u (v.first + e) w (omega (arith, laid.0, later)))
    ∙ ap (λ l. item_in m u ∷ l) (at_variable (n + u.words) vs m i e w v laid.1 is less)

set-same : (xs : List Item) (i : ℕ) (x : Item) → slice_get xs i ≡ Some x → set xs i x ≡ xs
set-same [] i x e = refl
set-same (y ∷ xs) zero x e = ap (λ z. z ∷ xs) (sym (the_item y x e))
  where
    the_item : (a b : Item) → Some a ≡ Some b → a ≡ b
    the_item a b h = cc
set-same (y ∷ xs) (suc i) x e = ap (λ l. y ∷ l) (set-same xs i x e)

value_at : (vs : List Variable) (m : List Word) (i : ℕ) (v : Variable) → slice_get vs i ≡ Some v → slice_get (values_of vs m) i ≡ Some (item_in m v)
value_at [] m i v e = absurd (cc)
value_at (u ∷ vs) m zero v e = ap (λ x. Some (item_in m x)) (same_variable u v e)
value_at (u ∷ vs) m (suc i) v e = value_at vs m i v e

-- so it is also where the variable has no such element, since then nothing changes
pub put_at : (vs : List Variable) (m : List Word) (i e : ℕ) (w : Word) (v : Variable) → AreLaidOut 0 vs → slice_get vs i ≡ Some v
    → values_of vs (put_in m (word_place v e) w) ≡ set (values_of vs m) i (item_by v.kind (set (take v.words (drop v.first m)) e w))
put_at vs m i e w v laid is = go (nat_lt e v.words) refl
  where
    go : (b : Bool) → nat_lt e v.words ≡ b → values_of vs (put_in m (cond b (Some (v.first + e)) None) w) ≡ set (values_of vs m) i (item_by v.kind (set (take v.words (drop v.first m)) e w))
    go true t = at_variable 0 vs m i e w v laid is (grind (arith, nat_tests))
    go false t =
        let past : v.words ≤ e = grind (arith, nat_tests) in
        let short : length (take v.words (drop v.first m)) ≤ e = omega (arith, past, length-take v.words (drop v.first m)) in
        sym (ap (λ ws. set (values_of vs m) i (item_by v.kind ws)) (set_past (take v.words (drop v.first m)) e w short) ∙ set-same (values_of vs m) i (item_in m v) (value_at vs m i v is))

get_or-take-drop : (n f : ℕ) (m : List Word) (e : ℕ) (w : Word) → e < n → get_or (take n (drop f m)) e w ≡ get_or m (f + e) w
get_or-take-drop n f m e w less = get_or-take n (drop f m) e w less ∙ get_or-drop f m e w

-- what comes out is that element
pub out_at : (m : List Word) (v : Variable) (e : ℕ) (w : Word) → out_of m (word_place v e) w ≡ get_or (take v.words (drop v.first m)) e w
out_at m v e w = go (nat_lt e v.words) refl
  where
    go : (b : Bool) → nat_lt e v.words ≡ b → out_of m (cond b (Some (v.first + e)) None) w ≡ get_or (take v.words (drop v.first m)) e w
    go true t = sym (get_or-take-drop v.words v.first m e w (grind (arith, nat_tests)))
    go false t =
        let past : v.words ≤ e = grind (arith, nat_tests) in
        sym (get_or_past (take v.words (drop v.first m)) e w (omega (arith, past, length-take v.words (drop v.first m))))

-- Writing.

-- one word after another
pub overwritten_next : (ws : List ℤ) (k : ℕ) (n : ℤ) (ns : List ℤ) → overwritten ws k (n ∷ ns) ≡ overwritten (set ws k n) (suc k) ns
overwritten_next [] k n ns = refl
overwritten_next (w ∷ ws) zero n ns = refl
overwritten_next (w ∷ ws) (suc k) n ns = ap (λ l. w ∷ l) (overwritten_next ws k n ns)

pub overwritten_past : (ws : List ℤ) (k : ℕ) (ns : List ℤ) → length ws ≤ k → overwritten ws k ns ≡ ws
overwritten_past [] k ns le = refl
overwritten_past (w ∷ ws) zero ns le = absurd (omega (arith, le))
overwritten_past (w ∷ ws) (suc k) ns le = ap (λ l. w ∷ l) (overwritten_past ws k ns (omega (arith, le)))

pub overwritten-nil : (ws : List ℤ) (k : ℕ) → overwritten ws k [] ≡ ws
overwritten-nil [] k = refl
overwritten-nil (w ∷ ws) zero = refl
overwritten-nil (w ∷ ws) (suc k) = ap (λ l. w ∷ l) (overwritten-nil ws k)

-- an exchange in a list
pub exchanged_is : (ps : List (Option PortValue)) (k : ℕ) (p : Option PortValue) → exchanged ps k p ≡ (set ps k p, get_or ps k p)
exchanged_is [] k p = refl
exchanged_is (q ∷ ps) zero p = refl
exchanged_is (q ∷ ps) (suc k) p = ap (λ r. (q ∷ r.0, r.1)) (exchanged_is ps k p)

-- nothing is written
pub written_nothing : (xs : List Item) (i k : ℕ) → written_from xs i k [] ≡ xs
written_nothing [] i k = refl
written_nothing (x ∷ xs) zero k = ap (λ y. y ∷ xs) (go x)
  where
    go : (y : Item) → item_written y k [] ≡ y
    go (Words ws) = ap Words (overwritten-nil ws k)
    go (Ports ps) = refl
written_nothing (x ∷ xs) (suc i) k = ap (λ l. x ∷ l) (written_nothing xs i k)

overwritten_one : (ws : List ℤ) (k : ℕ) (n : ℤ) → overwritten ws k (n ∷ []) ≡ set ws k n
overwritten_one [] k n = refl
overwritten_one (w ∷ ws) zero n = ap (λ l. n ∷ l) (overwritten-nil ws zero)
overwritten_one (w ∷ ws) (suc k) n = ap (λ l. w ∷ l) (overwritten_one ws k n)

item_next : (x : Item) (k : ℕ) (n : ℤ) (ns : List ℤ) → item_written x k (n ∷ ns) ≡ item_written (item_written x k (n ∷ [])) (suc k) ns
item_next (Words ws) k n ns = ap Words (overwritten_next ws k n ns ∙ ap (λ l. overwritten l (suc k) ns) (sym (overwritten_one ws k n)))
item_next (Ports ps) k n ns = refl

-- the first of some words, and then the others
pub written_next : (xs : List Item) (i k : ℕ) (n : ℤ) (ns : List ℤ) → written_from xs i k (n ∷ ns) ≡ written_from (written_from xs i k (n ∷ [])) i (suc k) ns
written_next [] i k n ns = refl
written_next (x ∷ xs) zero k n ns = ap (λ y. y ∷ xs) (item_next x k n ns)
written_next (x ∷ xs) (suc i) k n ns = ap (λ l. x ∷ l) (written_next xs i k n ns)

number_put : (k : Kind) (ws : List Word) (e : ℕ) (n : ℤ) → holds_ports k ≡ false → item_by k (set ws e (Number n)) ≡ item_written (item_by k ws) e (n ∷ [])
number_put kind.Integer ws e n not_ports = ap Words (map-set number_in ws e (Number n) ∙ sym (overwritten_one (map number_in ws) e n))
number_put kind.Logical ws e n not_ports = ap Words (map-set number_in ws e (Number n) ∙ sym (overwritten_one (map number_in ws) e n))
number_put (kind.In t) ws e n not_ports = absurd (cc)
number_put (kind.Out t) ws e n not_ports = absurd (cc)

-- one number in memory
pub number_written : (vs : List Variable) (m : List Word) (i e : ℕ) (n : ℤ) (v : Variable) → AreLaidOut 0 vs → slice_get vs i ≡ Some v → holds_ports v.kind ≡ false
    → values_of vs (put_in m (word_place v e) (Number n)) ≡ written_from (values_of vs m) i e (n ∷ [])
number_written vs m i e n v laid is not_ports =
    put_at vs m i e (Number n) v laid is
    ∙ ap (set (values_of vs m) i) (number_put v.kind (take v.words (drop v.first m)) e n not_ports)
    ∙ sym (written_at vs m i e (n ∷ []) v is)

-- a step of writing: what the rest writes then is what all wrote
pub write_step : (vs : List Variable) (m new : List Word) (i e : ℕ) (n : ℤ) (ns : List ℤ) (v : Variable) (all : List Item) → AreLaidOut 0 vs → slice_get vs i ≡ Some v → holds_ports v.kind ≡ false
    → new ≡ put_in m (word_place v e) (Number n) → written_from (values_of vs m) i e (n ∷ ns) ≡ all → written_from (values_of vs new) i (e + 1) ns ≡ all
write_step vs m new i e n ns v all laid is not_ports put so =
    ap (λ j. written_from (values_of vs new) i j ns) (omega arith)
    ∙ ap (λ l. written_from l i (suc e) ns) (ap (values_of vs) put ∙ number_written vs m i e n v laid is not_ports)
    ∙ sym (written_next (values_of vs m) i e n ns)
    ∙ so

item_past : (k : Kind) (ws : List Word) (e : ℕ) (ns : List ℤ) → length ws ≤ e → item_written (item_by k ws) e ns ≡ item_by k ws
item_past kind.Integer ws e ns le = ap Words (overwritten_past (map number_in ws) e ns (omega (arith, le, length-map ws number_in)))
item_past kind.Logical ws e ns le = ap Words (overwritten_past (map number_in ws) e ns (omega (arith, le, length-map ws number_in)))
item_past (kind.In t) ws e ns le = refl
item_past (kind.Out t) ws e ns le = refl

-- behind the last element nothing is written
pub write_past : (vs : List Variable) (m : List Word) (i e : ℕ) (ns : List ℤ) (v : Variable) (all : List Item) → slice_get vs i ≡ Some v → v.words ≤ e
    → written_from (values_of vs m) i e ns ≡ all → values_of vs m ≡ all
write_past vs m i e ns v all is past so =
    sym (
    written_at vs m i e ns v is
    ∙ ap (set (values_of vs m) i) (item_past v.kind (take v.words (drop v.first m)) e ns (omega (arith, past, length-take v.words (drop v.first m))))
    ∙ set-same (values_of vs m) i (item_in m v) (value_at vs m i v is)
    ) ∙ so

-- nor into ports
pub write_ports : (vs : List Variable) (m : List Word) (i e : ℕ) (ns : List ℤ) (v : Variable) → slice_get vs i ≡ Some v → holds_ports v.kind ≡ true → values_of vs m ≡ written_from (values_of vs m) i e ns
write_ports vs m i e ns v is ports =
    sym (written_at vs m i e ns v is ∙ ap (set (values_of vs m) i) (go v.kind (take v.words (drop v.first m)) ports) ∙ set-same (values_of vs m) i (item_in m v) (value_at vs m i v is))
  where
    go : (k : Kind) (ws : List Word) → holds_ports k ≡ true → item_written (item_by k ws) e ns ≡ item_by k ws
    go kind.Integer ws h = absurd (cc)
    go kind.Logical ws h = absurd (cc)
    go (kind.In t) ws h = refl
    go (kind.Out t) ws h = refl

-- Exchanging.

port_in-word : (p : Option PortValue) → port_in (port_word p) ≡ p
port_in-word None = refl
port_in-word (Some z) = refl

ports_put : (ws : List Word) (e : ℕ) (p : Option PortValue)
    → ◌≡◌ {A = Item × Option PortValue} (Ports (exchanged (map port_in ws) e p).0, (exchanged (map port_in ws) e p).1) (Ports (map port_in (set ws e (port_word p))), port_in (get_or ws e (port_word p)))
ports_put ws e p =
    let back = port_in-word p in
    let changed : set (map port_in ws) e p ≡ map port_in (set ws e (port_word p)) = ap (set (map port_in ws) e) (sym back) ∙ sym (map-set port_in ws e (port_word p)) in
    let came : get_or (map port_in ws) e p ≡ port_in (get_or ws e (port_word p)) = ap (get_or (map port_in ws) e) (sym back) ∙ get_or-map port_in ws e (port_word p) in
    ap {B = Item × Option PortValue} (λ r. (Ports r.0, r.1)) (exchanged_is (map port_in ws) e p)
    ∙ ap {B = Item × Option PortValue} (λ l. (Ports l, get_or (map port_in ws) e p)) changed
    ∙ ap {B = Item × Option PortValue} (λ q. (Ports (map port_in (set ws e (port_word p))), q)) came

port_put : (k : Kind) (ws : List Word) (e : ℕ) (p : Option PortValue) → holds_ports k ≡ true
    → item_exchanged (item_by k ws) e p ≡ (item_by k (set ws e (port_word p)), port_in (get_or ws e (port_word p)))
port_put kind.Integer ws e p h = absurd (cc)
port_put kind.Logical ws e p h = absurd (cc)
port_put (kind.In t) ws e p h = ports_put ws e p
port_put (kind.Out t) ws e p h = ports_put ws e p

-- what an exchange in memory is to the values: what stands there then, and what comes out
pub exchange_put : (vs : List Variable) (m new : List Word) (i e : ℕ) (p : Option PortValue) (out : Word) (v : Variable) → AreLaidOut 0 vs → slice_get vs i ≡ Some v → holds_ports v.kind ≡ true
    → new ≡ put_in m (word_place v e) (port_word p) → out ≡ out_of m (word_place v e) (port_word p)
    → (values_of vs new ≡ (exchange (values_of vs m) i e p).0) × (port_in out ≡ (exchange (values_of vs m) i e p).1)
exchange_put vs m new i e p out v laid is ports put took =
    let there = exchanged_at vs m i e p v is in
    let item = port_put v.kind (take v.words (drop v.first m)) e p ports in (
      ap (values_of vs) put ∙ put_at vs m i e (port_word p) v laid is ∙ ap (λ r. set (values_of vs m) i r.0) (sym item) ∙ sym (ap (λ r. r.0) there),
      ap port_in (took ∙ out_at m v e (port_word p)) ∙ ap (λ r. r.1) (sym item) ∙ sym (ap (λ r. r.1) there),
    )

no_port_put : (k : Kind) (ws : List Word) (e : ℕ) (p : Option PortValue) → holds_ports k ≡ false → item_exchanged (item_by k ws) e p ≡ (item_by k ws, p)
no_port_put kind.Integer ws e p h = refl
no_port_put kind.Logical ws e p h = refl
no_port_put (kind.In t) ws e p h = absurd (cc)
no_port_put (kind.Out t) ws e p h = absurd (cc)

-- at a variable that holds no ports nothing is exchanged
pub no_exchange : (vs : List Variable) (m : List Word) (i e : ℕ) (p : Option PortValue) (v : Variable) → slice_get vs i ≡ Some v → holds_ports v.kind ≡ false → exchange (values_of vs m) i e p ≡ (values_of vs m, p)
no_exchange vs m i e p v is not_ports =
    exchanged_at vs m i e p v is
    ∙ ap {B = List Item × Option PortValue} (λ r. (set (values_of vs m) i r.0, r.1)) (no_port_put v.kind (take v.words (drop v.first m)) e p not_ports)
    ∙ ap {B = List Item × Option PortValue} (λ l. (l, p)) (set-same (values_of vs m) i (item_in m v) (value_at vs m i v is))
