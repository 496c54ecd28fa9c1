-- Words that are laid over a span of a frame: what that is to the values of the variables.
use Rattle.std.proofs.Common.{◌≡◌, ℕ, zero, suc, ◌+◌, ◌<◌, ◌≤◌, ℤ, pos, true, false, Option, Some, None, List, [], ◌∷◌, ◌++◌, length, map, take, drop, set, get_or, replicate, slice_get, refl, sym, ap, ◌∙◌, arith, length-drop}
use Rattle.std.proofs.lemmas.List.{take-append-drop, drop-set-lt, drop-set-add, length-set, length-take, get_or-take, get_or-drop}
use Rattle.std.proofs.Math.Seq.{drop-cons, drop-nil, take-nil}
use Rattle.fm_base.specs.declared.port.PortValue.{PortValue}
use Rattle.fm_base.specs.Channels.{Item, Words, Ports}
use Rattle.fm_tree.specs.declared.port_type.Kind.{Kind}
use Rattle.fm_tree.specs.declared.port_type.Kind.TheVariants as kind
use Rattle.fm_symbols.specs.declared.names.Variable.{Variable}
use Rattle.fm_mean.specs.Layout.{AreLaidOut}
use Rattle.fm_mean.specs.Places.{items_at, words_in, overwritten, item_written, written_from, exchanged, item_exchanged, exchange, exchange_all}
use Rattle.fm_code.specs.Passing.{spliced, nulls}
use Rattle.fm_gen_relation.specs.Sound.{is_word}
use Rattle.fm_gen_relation.specs.Standing.{Slots, port_by, item_by, item_in, values_in}
use Rattle.fm_gen_relation.proofs.Writes.{same_variable, take-set-all, behind, all_before, begins_behind, writes}

-- ---- a span of words, one word after the other

spliced_next : (w : ℤ) (ws : List ℤ) (k : ℕ) (ns : List ℤ) → spliced (w ∷ ws) (suc k) ns ≡ w ∷ spliced ws k ns
spliced_next w ws k ns = let e : suc k + length ns ≡ suc (k + length ns) = omega arith in ap (λ m. w ∷ (take k ws ++ (ns ++ drop m (w ∷ ws)))) e

spliced_first : (w : ℤ) (ws : List ℤ) (n : ℤ) (ns : List ℤ) → spliced (w ∷ ws) 0 (n ∷ ns) ≡ n ∷ spliced ws 0 ns
spliced_first w ws n ns = let e : 0 + suc (length ns) ≡ suc (0 + length ns) = omega arith in ap (λ m. n ∷ (ns ++ drop m (w ∷ ws))) e

pub spliced_none : (ws : List ℤ) (k : ℕ) → spliced ws k [] ≡ ws
spliced_none ws k = let e : k + 0 ≡ k = omega arith in ap (λ m. take k ws ++ drop m ws) e ∙ take-append-drop k ws

pub spliced_more : (ws : List ℤ) (k : ℕ) (n : ℤ) (ns : List ℤ) → k < length ws → spliced ws k (n ∷ ns) ≡ spliced (set ws k n) (suc k) ns
spliced_more [] k n ns less = absurd (omega (arith, less))
spliced_more (w ∷ ws) zero n ns less = spliced_first w ws n ns ∙ sym (spliced_next n ws 0 ns)
spliced_more (w ∷ ws) (suc k) n ns less =
    spliced_next w ws k (n ∷ ns) ∙ ap (λ l. w ∷ l) (spliced_more ws k n ns (omega (arith, less))) ∙ sym (spliced_next w (set ws k n) (suc k) ns)

pub spliced_length : (ws : List ℤ) (k : ℕ) (ns : List ℤ) → k + length ns ≤ length ws → length (spliced ws k ns) ≡ length ws
spliced_length ws k [] le = ap length (spliced_none ws k)
spliced_length ws k (n ∷ ns) le =
    ap length (spliced_more ws k n ns (omega (arith, le)))
    ∙ spliced_length (set ws k n) (suc k) ns (omega (arith, le, length-set ws k n)) ∙ length-set ws k n

-- a span within a variable
take-take : (n c : ℕ) (ws : List ℤ) → c ≤ n → take c (take n ws) ≡ take c ws
take-take n zero ws le = refl
take-take zero (suc c) ws le = absurd (omega (arith, le))
take-take (suc n) (suc c) [] le = refl
take-take (suc n) (suc c) (w ∷ ws) le = ap (λ l. w ∷ l) (take-take n c ws (omega (arith, le)))

pub span_in : (f n a c : ℕ) (ws : List ℤ) → a + c ≤ n → take c (drop a (take n (drop f ws))) ≡ take c (drop (f + a) ws)
span_in zero n zero c ws le = take-take n c ws (omega (arith, le))
span_in zero zero (suc a) c ws le = absurd (omega (arith, le))
span_in zero (suc n) (suc a) c [] le = let e : zero + suc a ≡ suc (zero + a) = omega arith in ap (λ m. take c (drop m [])) (sym e)
span_in zero (suc n) (suc a) c (w ∷ ws) le =
    let e : zero + suc a ≡ suc (zero + a) = omega arith in
    span_in zero n a c ws (omega (arith, le)) ∙ ap (λ m. take c (drop m (w ∷ ws))) (sym e)
span_in (suc f) n a c [] le = ap (λ l. take c (drop a l)) (take-nil n) ∙ ap (take c) (drop-nil a ∙ sym (drop-nil (suc f + a)))
span_in (suc f) n a c (w ∷ ws) le = let e : suc f + a ≡ suc (f + a) = omega arith in span_in f n a c ws le ∙ ap (λ m. take c (drop m (w ∷ ws))) (sym e)

-- ---- words

overwritten_none : (ws : List ℤ) (k : ℕ) → overwritten ws k [] ≡ ws
overwritten_none [] k = refl
overwritten_none (w ∷ ws) zero = refl
overwritten_none (w ∷ ws) (suc k) = ap (λ l. w ∷ l) (overwritten_none ws k)

overwritten_more : (ws : List ℤ) (k : ℕ) (n : ℤ) (ns : List ℤ) → overwritten ws k (n ∷ ns) ≡ overwritten (overwritten ws k (n ∷ [])) (suc k) ns
overwritten_more [] k n ns = refl
overwritten_more (w ∷ ws) zero n ns = ap (λ l. n ∷ overwritten l zero ns) (sym (overwritten_none ws zero))
overwritten_more (w ∷ ws) (suc k) n ns = ap (λ l. w ∷ l) (overwritten_more ws k n ns)

item_none : (x : Item) (k : ℕ) → item_written x k [] ≡ x
item_none (Words ws) k = ap Words (overwritten_none ws k)
item_none (Ports ps) k = refl

item_more : (x : Item) (k : ℕ) (n : ℤ) (ns : List ℤ) → item_written x k (n ∷ ns) ≡ item_written (item_written x k (n ∷ [])) (suc k) ns
item_more (Words ws) k n ns = ap Words (overwritten_more ws k n ns)
item_more (Ports ps) k n ns = refl

written_none : (xs : List Item) (i k : ℕ) → written_from xs i k [] ≡ xs
written_none [] i k = refl
written_none (x ∷ xs) zero k = ap (λ y. y ∷ xs) (item_none x k)
written_none (x ∷ xs) (suc i) k = ap (λ l. x ∷ l) (written_none xs i k)

written_more : (xs : List Item) (i k : ℕ) (n : ℤ) (ns : List ℤ) → written_from xs i k (n ∷ ns) ≡ written_from (written_from xs i k (n ∷ [])) i (suc k) ns
written_more [] i k n ns = refl
written_more (x ∷ xs) zero k n ns = ap (λ y. y ∷ xs) (item_more x k n ns)
written_more (x ∷ xs) (suc i) k n ns = ap (λ l. x ∷ l) (written_more xs i k n ns)

module _ (slots : Slots) (vs : List Variable) (i : ℕ) (v : Variable) (laid : AreLaidOut 0 vs) (there : slice_get vs i ≡ Some v) where
  -- words over some of a variable
  pub writes_span : (ws : List ℤ) (k : ℕ) (ns : List ℤ) → is_word v.kind ≡ true → k + length ns ≤ v.words → v.first + v.words ≤ length ws
      → written_from (values_in slots vs ws) i k ns ≡ values_in slots vs (spliced ws (v.first + k) ns)
  writes_span ws k [] q fits within = written_none (values_in slots vs ws) i k ∙ ap (values_in slots vs) (sym (spliced_none ws (v.first + k)))
  writes_span ws k (n ∷ ns) q fits within =
      let next = set ws (v.first + k) n in
      let e : suc (v.first + k) ≡ v.first + suc k = omega arith in
      written_more (values_in slots vs ws) i k n ns
      ∙ ap (λ xs. written_from xs i (suc k) ns) (sym (writes slots 0 vs ws i k n v laid there q (omega (arith, fits))))
      ∙ writes_span next (suc k) ns q (omega (arith, fits)) (omega (arith, within, length-set ws (v.first + k) n))
      ∙ ap (values_in slots vs) (sym (spliced_more ws (v.first + k) n ns (omega (arith, fits, within)) ∙ ap (λ j. spliced next j ns) e))

-- ---- ports

module _ (slots : Slots) where
  exchanged_set : (ws : List ℤ) (k : ℕ) (z : ℤ) → map (port_by slots) (set ws k z) ≡ (exchanged (map (port_by slots) ws) k (port_by slots z)).0
  exchanged_set [] k z = refl
  exchanged_set (w ∷ ws) zero z = refl
  exchanged_set (w ∷ ws) (suc k) z = ap (λ l. port_by slots w ∷ l) (exchanged_set ws k z)

  exchanged_gives : (ws : List ℤ) (k : ℕ) (p : Option PortValue) → k < length ws → (exchanged (map (port_by slots) ws) k p).1 ≡ port_by slots (get_or ws k (pos 0))
  exchanged_gives [] k p less = absurd (omega (arith, less))
  exchanged_gives (w ∷ ws) zero p less = refl
  exchanged_gives (w ∷ ws) (suc k) p less = exchanged_gives ws k p (omega (arith, less))

  item_set : (q : Kind) (ws : List ℤ) (k : ℕ) (z : ℤ) → is_word q ≡ false → item_by slots q (set ws k z) ≡ (item_exchanged (item_by slots q ws) k (port_by slots z)).0
  item_set kind.Integer ws k z q = absurd (cc)
  item_set kind.Logical ws k z q = absurd (cc)
  item_set (kind.In t) ws k z q = ap Ports (exchanged_set ws k z)
  item_set (kind.Out t) ws k z q = ap Ports (exchanged_set ws k z)

  item_gives : (q : Kind) (ws : List ℤ) (k : ℕ) (p : Option PortValue) → is_word q ≡ false → k < length ws → (item_exchanged (item_by slots q ws) k p).1 ≡ port_by slots (get_or ws k (pos 0))
  item_gives kind.Integer ws k p q less = absurd (cc)
  item_gives kind.Logical ws k p q less = absurd (cc)
  item_gives (kind.In t) ws k p q less = exchanged_gives ws k p less
  item_gives (kind.Out t) ws k p q less = exchanged_gives ws k p less

  -- a port at an element of a variable: what the words are then
  pub exchanges : (n : ℕ) (vs : List Variable) (ws : List ℤ) (i k : ℕ) (z : ℤ) (v : Variable) → AreLaidOut n vs → slice_get vs i ≡ Some v → is_word v.kind ≡ false → k < v.words
      → values_in slots vs (set ws (v.first + k) z) ≡ (exchange (values_in slots vs ws) i k (port_by slots z)).0
  exchanges n [] ws i k z v laid e q less = absurd (cc)
  exchanges n (u ∷ vs) ws zero k z v laid e q less =
      let same : u ≡ v = same_variable u v e in
      ap (λ x. item_in slots (set ws (v.first + k) z) x ∷ values_in slots vs (set ws (v.first + k) z)) same
      ∙ ap (λ x. item_by slots v.kind x ∷ values_in slots vs (set ws (v.first + k) z)) (ap (take v.words) (drop-set-add v.first ws k z) ∙ take-set-all v.words (drop v.first ws) k z)
      ∙ ap (λ x. x ∷ values_in slots vs (set ws (v.first + k) z)) (item_set v.kind (take v.words (drop v.first ws)) k z q)
      ∙ ap (λ l. (item_exchanged (item_in slots ws v) k (port_by slots z)).0 ∷ l)
      (all_before slots (n + u.words) vs ws (v.first + k) z laid.1 (omega (arith, laid.0, less, ap (λ (x : Variable). x.first) same, ap (λ (x : Variable). x.words) same)))
      ∙ ap (λ x. (item_exchanged (item_in slots ws x) k (port_by slots z)).0 ∷ values_in slots vs ws) (sym same)
  exchanges n (u ∷ vs) ws (suc i) k z v laid e q less =
      let later = begins_behind slots (n + u.words) vs i v laid.1 e in
      ap (λ x. x ∷ values_in slots vs (set ws (v.first + k) z)) (behind slots ws u (v.first + k) z (omega (arith, laid.0, later)))
      ∙ ap (λ l. item_in slots ws u ∷ l) (exchanges (n + u.words) vs ws i k z v laid.1 e q less)

  -- and what comes out
  pub gives : (vs : List Variable) (ws : List ℤ) (i k : ℕ) (p : Option PortValue) (v : Variable) → slice_get vs i ≡ Some v → is_word v.kind ≡ false → k < v.words → v.first + v.words ≤ length ws
      → (exchange (values_in slots vs ws) i k p).1 ≡ port_by slots (get_or ws (v.first + k) (pos 0))
  gives [] ws i k p v e q less within = absurd (cc)
  gives (u ∷ vs) ws zero k p v e q less within =
      let same : u ≡ v = same_variable u v e in
      ap (λ x. (item_exchanged (item_in slots ws x) k p).1) same
      ∙ item_gives v.kind (take v.words (drop v.first ws)) k p q (omega (arith, less, within, length-take v.words (drop v.first ws), length-drop v.first ws))
      ∙ ap (port_by slots) (get_or-take v.words (drop v.first ws) k (pos 0) less ∙ get_or-drop v.first ws k (pos 0))
  gives (u ∷ vs) ws (suc i) k p v e q less within = gives vs ws i k p v e q less within

  pub null_ports : (n : ℕ) → map (port_by slots) (nulls n) ≡ replicate n None
  null_ports zero = refl
  null_ports (suc n) = ap (λ l. None ∷ l) (null_ports n)

take-behind : (c k : ℕ) (ws : List ℤ) (z : ℤ) → k < length ws → get_or ws k (pos 0) ∷ take c (drop (suc k) (set ws k z)) ≡ take (suc c) (drop k ws)
take-behind c k ws z less =
    ap (λ l. get_or ws k (pos 0) ∷ take c l) (drop-set-lt (suc k) ws k z (omega arith))
    ∙ ap (take (suc c)) (sym (drop-cons ws k (pos 0) less))

module _ (slots : Slots) (vs : List Variable) (i : ℕ) (v : Variable) (laid : AreLaidOut 0 vs) (there : slice_get vs i ≡ Some v) where
  -- ports over some of a variable: what the words are then
  pub exchanges_span : (ws : List ℤ) (k : ℕ) (zs : List ℤ) → is_word v.kind ≡ false → k + length zs ≤ v.words → v.first + v.words ≤ length ws
      → (exchange_all (values_in slots vs ws) i k (map (port_by slots) zs)).0 ≡ values_in slots vs (spliced ws (v.first + k) zs)
  exchanges_span ws k [] q fits within = ap (values_in slots vs) (sym (spliced_none ws (v.first + k)))
  exchanges_span ws k (z ∷ zs) q fits within =
      let next = set ws (v.first + k) z in
      let e : suc (v.first + k) ≡ v.first + suc k = omega arith in
      ap (λ xs. (exchange_all xs i (suc k) (map (port_by slots) zs)).0) (sym (exchanges slots 0 vs ws i k z v laid there q (omega (arith, fits))))
      ∙ exchanges_span next (suc k) zs q (omega (arith, fits)) (omega (arith, within, length-set ws (v.first + k) z))
      ∙ ap (values_in slots vs) (sym (spliced_more ws (v.first + k) z zs (omega (arith, fits, within)) ∙ ap (λ j. spliced next j zs) e))

  -- and what comes out
  pub gives_span : (ws : List ℤ) (k : ℕ) (zs : List ℤ) → is_word v.kind ≡ false → k + length zs ≤ v.words → v.first + v.words ≤ length ws
      → (exchange_all (values_in slots vs ws) i k (map (port_by slots) zs)).1 ≡ map (port_by slots) (take (length zs) (drop (v.first + k) ws))
  gives_span ws k [] q fits within = refl
  gives_span ws k (z ∷ zs) q fits within =
      let next = set ws (v.first + k) z in
      let e : v.first + suc k ≡ suc (v.first + k) = omega arith in
      ap (λ x. x ∷ (exchange_all (exchange (values_in slots vs ws) i k (port_by slots z)).0 i (suc k) (map (port_by slots) zs)).1)
      (gives slots vs ws i k (port_by slots z) v there q (omega (arith, fits)) within)
      ∙ ap (λ xs. port_by slots (get_or ws (v.first + k) (pos 0)) ∷ (exchange_all xs i (suc k) (map (port_by slots) zs)).1)
      (sym (exchanges slots 0 vs ws i k z v laid there q (omega (arith, fits))))
      ∙ ap (λ l. port_by slots (get_or ws (v.first + k) (pos 0)) ∷ l) (
      gives_span next (suc k) zs q (omega (arith, fits)) (omega (arith, within, length-set ws (v.first + k) z))
      ∙ ap (λ j. map (port_by slots) (take (length zs) (drop j next))) e
      )
      ∙ ap (map (port_by slots)) (take-behind (length zs) (v.first + k) ws z (omega (arith, fits, within)))

-- ports go by the words of all variables
exchange_words : (xs : List Item) (i k : ℕ) (p : Option PortValue) (j : ℕ) → words_in (items_at (exchange xs i k p).0 j) ≡ words_in (items_at xs j)
exchange_words [] i k p j = refl
exchange_words (Words ws ∷ xs) zero k p zero = refl
exchange_words (Ports ps ∷ xs) zero k p zero = refl
exchange_words (x ∷ xs) zero k p (suc j) = refl
exchange_words (x ∷ xs) (suc i) k p zero = refl
exchange_words (x ∷ xs) (suc i) k p (suc j) = exchange_words xs i k p j

pub exchanges_words : (xs : List Item) (i k : ℕ) (ps : List (Option PortValue)) (j : ℕ) → words_in (items_at (exchange_all xs i k ps).0 j) ≡ words_in (items_at xs j)
exchanges_words xs i k [] j = refl
exchanges_words xs i k (p ∷ ps) j = exchanges_words (exchange xs i k p).0 i (suc k) ps j ∙ exchange_words xs i k p j
