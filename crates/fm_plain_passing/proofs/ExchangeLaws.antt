-- Exchanges one by one, beyond the end of a variable, and without a change.
use Rattle.std.proofs.Common.{◌≡◌, ℕ, zero, suc, ℤ, ◌≤◌, Option, None, List, [], ◌∷◌, length, map, take, drop, refl, ap, sym, arith}
use Rattle.std.proofs.lemmas.List.{length-map, length-take, length-drop}
use Rattle.fm_base.specs.declared.port.PortValue.{PortValue}
use Rattle.fm_base.specs.Channels.{Item, Words, Ports}
use Rattle.fm_tree.specs.declared.port_type.Kind.{Kind}
use Rattle.fm_tree.specs.declared.port_type.Kind.TheVariants as kind
use Rattle.fm_symbols.specs.declared.names.Variable.{Variable}
use Rattle.fm_mean.specs.Places.{overwritten, item_written, written_from, exchanged, item_exchanged, exchange, exchange_all}
use Rattle.fm_plain_frame.specs.declared.word.Word.{Word}
use Rattle.fm_plain_frame.specs.Memory.{item_by, item_in, values_of, number_in, port_in}

-- ---- beyond the end of a variable

exchanged_past : (ps : List (Option PortValue)) (k : ℕ) (p : Option PortValue) → length ps ≤ k → (exchanged ps k p).0 ≡ ps
exchanged_past [] k p h = refl
exchanged_past (q ∷ qs) zero p h = absurd (omega arith)
exchanged_past (q ∷ qs) (suc k) p h = ap (λ l. q ∷ l) (exchanged_past qs k p (omega arith))

exchanged_out_past : (ps : List (Option PortValue)) (k : ℕ) (p : Option PortValue) → length ps ≤ k → (exchanged ps k p).1 ≡ p
exchanged_out_past [] k p h = refl
exchanged_out_past (q ∷ qs) zero p h = absurd (omega arith)
exchanged_out_past (q ∷ qs) (suc k) p h = exchanged_out_past qs k p (omega arith)

ports_past : (ws : List Word) (k : ℕ) (p : Option PortValue) → length ws ≤ k → (exchanged (map port_in ws) k p).0 ≡ map port_in ws
ports_past ws k p h = exchanged_past (map port_in ws) k p (omega (arith, length-map ws port_in))

item_past : (d : Kind) (ws : List Word) (k : ℕ) (p : Option PortValue) → length ws ≤ k → (item_exchanged (item_by d ws) k p).0 ≡ item_by d ws
item_past kind.Integer ws k p h = refl
item_past kind.Logical ws k p h = refl
item_past (kind.In t) ws k p h = ap Ports (ports_past ws k p h)
item_past (kind.Out t) ws k p h = ap Ports (ports_past ws k p h)

item_out_past : (d : Kind) (ws : List Word) (k : ℕ) (p : Option PortValue) → length ws ≤ k → (item_exchanged (item_by d ws) k p).1 ≡ p
item_out_past kind.Integer ws k p h = refl
item_out_past kind.Logical ws k p h = refl
item_out_past (kind.In t) ws k p h = exchanged_out_past (map port_in ws) k p (omega (arith, length-map ws port_in))
item_out_past (kind.Out t) ws k p h = exchanged_out_past (map port_in ws) k p (omega (arith, length-map ws port_in))

-- no variable has more words than the memory
pub length-part : (n k : ℕ) (m : List Word) → length (take n (drop k m)) ≤ length m
length-part n k m = omega (arith, length-take n (drop k m), length-drop k m)

pub exchange_past : (vs : List Variable) (m : List Word) (i k : ℕ) (p : Option PortValue) → length m ≤ k → (exchange (values_of vs m) i k p).0 ≡ values_of vs m
exchange_past [] m i k p h = refl
exchange_past (v ∷ vs) m zero k p h = ap (λ x. x ∷ values_of vs m) (item_past v.kind (take v.words (drop v.first m)) k p (omega (arith, length-part v.words v.first m)))
exchange_past (v ∷ vs) m (suc i) k p h = ap (λ l. item_in m v ∷ l) (exchange_past vs m i k p h)

pub exchange_out_past : (vs : List Variable) (m : List Word) (i k : ℕ) (p : Option PortValue) → length m ≤ k → (exchange (values_of vs m) i k p).1 ≡ p
exchange_out_past [] m i k p h = refl
exchange_out_past (v ∷ vs) m zero k p h = item_out_past v.kind (take v.words (drop v.first m)) k p (omega (arith, length-part v.words v.first m))
exchange_out_past (v ∷ vs) m (suc i) k p h = exchange_out_past vs m i k p h

-- ---- the same for words that are written

overwritten_past : (ws : List ℤ) (k : ℕ) (ns : List ℤ) → length ws ≤ k → overwritten ws k ns ≡ ws
overwritten_past [] k ns h = refl
overwritten_past (w ∷ ws) zero ns h = absurd (omega arith)
overwritten_past (w ∷ ws) (suc k) ns h = ap (λ l. w ∷ l) (overwritten_past ws k ns (omega arith))

item_written_past : (d : Kind) (ws : List Word) (k : ℕ) (ns : List ℤ) → length ws ≤ k → item_written (item_by d ws) k ns ≡ item_by d ws
item_written_past kind.Integer ws k ns h = ap Words (overwritten_past (map number_in ws) k ns (omega (arith, length-map ws number_in)))
item_written_past kind.Logical ws k ns h = ap Words (overwritten_past (map number_in ws) k ns (omega (arith, length-map ws number_in)))
item_written_past (kind.In t) ws k ns h = refl
item_written_past (kind.Out t) ws k ns h = refl

pub written_past : (vs : List Variable) (m : List Word) (i k : ℕ) (ns : List ℤ) → length m ≤ k → written_from (values_of vs m) i k ns ≡ values_of vs m
written_past [] m i k ns h = refl
written_past (v ∷ vs) m zero k ns h = ap (λ x. x ∷ values_of vs m) (item_written_past v.kind (take v.words (drop v.first m)) k ns (omega (arith, length-part v.words v.first m)))
written_past (v ∷ vs) m (suc i) k ns h = ap (λ l. item_in m v ∷ l) (written_past vs m i k ns h)

-- ---- words one by one

overwritten_none : (ws : List ℤ) (k : ℕ) → overwritten ws k [] ≡ ws
overwritten_none [] k = refl
overwritten_none (w ∷ ws) zero = refl
overwritten_none (w ∷ ws) (suc k) = ap (λ l. w ∷ l) (overwritten_none ws k)

overwritten_more : (ws : List ℤ) (k : ℕ) (n : ℤ) (ns : List ℤ) → overwritten ws k (n ∷ ns) ≡ overwritten (overwritten ws k (n ∷ [])) (suc k) ns
overwritten_more [] k n ns = refl
overwritten_more (w ∷ ws) zero n ns = ap (λ l. n ∷ l) (ap (λ l. overwritten l zero ns) (sym (overwritten_none ws zero)))
overwritten_more (w ∷ ws) (suc k) n ns = ap (λ l. w ∷ l) (overwritten_more ws k n ns)

item_written_none : (v : Item) (k : ℕ) → item_written v k [] ≡ v
item_written_none (Words ws) k = ap Words (overwritten_none ws k)
item_written_none (Ports ps) k = refl

item_written_more : (v : Item) (k : ℕ) (n : ℤ) (ns : List ℤ) → item_written v k (n ∷ ns) ≡ item_written (item_written v k (n ∷ [])) (suc k) ns
item_written_more (Words ws) k n ns = ap Words (overwritten_more ws k n ns)
item_written_more (Ports ps) k n ns = refl

pub written_none : (vs : List Item) (i k : ℕ) → written_from vs i k [] ≡ vs
written_none [] i k = refl
written_none (v ∷ vs) zero k = ap (λ x. x ∷ vs) (item_written_none v k)
written_none (v ∷ vs) (suc i) k = ap (λ l. v ∷ l) (written_none vs i k)

pub written_more : (vs : List Item) (i k : ℕ) (n : ℤ) (ns : List ℤ) → written_from vs i k (n ∷ ns) ≡ written_from (written_from vs i k (n ∷ [])) i (suc k) ns
written_more [] i k n ns = refl
written_more (v ∷ vs) zero k n ns = ap (λ x. x ∷ vs) (item_written_more v k n ns)
written_more (v ∷ vs) (suc i) k n ns = ap (λ l. v ∷ l) (written_more vs i k n ns)

-- ---- a NULL that is exchanged for a NULL

exchanged_null : (ps : List (Option PortValue)) (k : ℕ) → (exchanged ps k None).1 ≡ None → (exchanged ps k None).0 ≡ ps
exchanged_null [] k h = refl
exchanged_null (q ∷ qs) zero h = ap (λ x. x ∷ qs) (sym h)
exchanged_null (q ∷ qs) (suc k) h = ap (λ l. q ∷ l) (exchanged_null qs k h)

item_null : (v : Item) (k : ℕ) → (item_exchanged v k None).1 ≡ None → (item_exchanged v k None).0 ≡ v
item_null (Words ws) k h = refl
item_null (Ports ps) k h = ap Ports (exchanged_null ps k h)

pub exchange_null : (vs : List Item) (i k : ℕ) → (exchange vs i k None).1 ≡ None → (exchange vs i k None).0 ≡ vs
exchange_null [] i k h = refl
exchange_null (v ∷ vs) zero k h = ap (λ x. x ∷ vs) (item_null v k h)
exchange_null (v ∷ vs) (suc i) k h = ap (λ l. v ∷ l) (exchange_null vs i k h)

-- ---- as many come out as go in

pub length-exchange_all : (vs : List Item) (i k : ℕ) (ps : List (Option PortValue)) → length (exchange_all vs i k ps).1 ≡ length ps
length-exchange_all vs i k [] = refl
length-exchange_all vs i k (p ∷ ps) = ap suc (length-exchange_all (exchange vs i k p).0 i (suc k) ps)
