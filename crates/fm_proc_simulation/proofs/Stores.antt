-- What is stored into the words of a frame: words over some of a variable, and the items of a message at their places.
use Rattle.std.proofs.Common.{◌≡◌, ℕ, zero, suc, ◌+◌, ◌<◌, ◌≤◌, ℤ, Bool, true, false, cond, Some, List, [], ◌∷◌, ◌++◌, length, map, take, drop, set, slice_get, slice_set, flat_map, Result, Ok, refl, sym, ap, subst, ◌∙◌, arith, nat_le, ◌&&◌}
use Rattle.std.proofs.lemmas.Bool.Decides.{nat_tests}
use Rattle.std.proofs.lemmas.List.{take-set-le, drop-set-lt, length-set}
use Rattle.fm_base.specs.declared.fault.Fault.{Fault}
use Rattle.fm_base.specs.declared.port.PortValue.{PortValue}
use Rattle.fm_base.specs.Channels.{Item, Words, Ports, Message, item_length, fits_limits}
use Rattle.fm_net.specs.Typed.{AllIn}
use Rattle.fm_tree.specs.PortFields.{PortFields, NoFields, FieldThen}
use Rattle.fm_tree.specs.PortReading as reading
use Rattle.fm_tree.specs.declared.port_type.Kind.{Kind}
use Rattle.fm_tree.specs.declared.port_type.Kind.TheVariants as kind
use Rattle.fm_tree.specs.declared.statement.Var.{Var}
use Rattle.fm_symbols.specs.declared.names.Variable.{Variable}
use Rattle.fm_rules.specs.PortTypes.{sizing_place}
use Rattle.fm_mean.specs.Names.{ProgramUnit}
use Rattle.fm_mean.specs.Layout.{AreLaidOut}
use Rattle.fm_mean.specs.Places.{written, live, stored_all}
use Rattle.fm_mean.specs.Places as mean
use Rattle.fm_mean.specs.Evaluate.{Scope, refs_in_var, place_of, places_of}
use Rattle.fm_mean.specs.Fits.{Types, ItemFits, FieldsFit, MessageFits, elements_behind}
use Rattle.fm_mean.specs.Steps.{limits_of}
use Rattle.fm_mean.proofs.Sorts.{parts}
use Rattle.fm_code.specs.Acts.{span_of as words_at}
use Rattle.fm_code.specs.declared.ask.Operand.TheVariants as operand
use Rattle.fm_code.specs.Passing as code
use Rattle.fm_code.specs.Passing.{spliced, ports_in}
use Rattle.fm_gen_relation.specs.Sound.{is_word, IsSoundUnit}
use Rattle.fm_gen_relation.specs.Targets.{TargetsFit}
use Rattle.fm_gen_relation.specs.Standing.{values_in}
use Rattle.fm_gen_relation.specs.Operands.{MeanSpan, first_of, holds_words, word_number, code_span, IsPlace, target_of}
use Rattle.fm_gen_relation.specs.Formals.{span_of, ports_of}
use Rattle.fm_gen_relation.proofs.Writes.{same_variable, begins_behind}
use Rattle.fm_gen_relation.proofs.Spans.{spliced_none, spliced_more, spliced_length, writes_span}
use Rattle.fm_gen_relation.proofs.PortWords.{first_there}
use Rattle.fm_gen_relation.proofs.Passing.{variable_within, place_within}
use Rattle.fm_gen_relation.proofs.Actuals.{place_holds, place_whole}
use Rattle.fm_proc_language.specs.Slots.{Slots, no_slots, port_in}
use Rattle.fm_proc_language.specs.Frames.{Held, all_exchanged, stored, all_stored}
use Rattle.fm_proc_simulation.specs.SlotWords.{IsHeld, AreOnce, HeldStands, NameTheSame, GoesTo}
use Rattle.fm_proc_simulation.proofs.Exchange.{all_exchange_alike, goes_on, goes_nowhere}
use Rattle.fm_proc_simulation.specs.Matching.{ItemMatches, ItemsMatch}

-- ---- words of a variable go by the ports of a frame

-- a word behind these
span_behind : (n f : ℕ) (ws : List ℤ) (k : ℕ) (w : ℤ) → f + n ≤ k → take n (drop f (set ws k w)) ≡ take n (drop f ws)
span_behind n zero ws k w le = take-set-le n ws k w (omega (arith, le))
span_behind n (suc f) [] k w le = refl
span_behind n (suc f) (x ∷ ws) zero w le = absurd (omega (arith, le))
span_behind n (suc f) (x ∷ ws) (suc k) w le = span_behind n f ws k w (omega (arith, le))

abbrev port_words : List Variable → List ℤ → List ℤ
port_words vs ws = flat_map (words_at ws) (ports_of vs)

-- those of one variable more
one_more : (v : Variable) (vs : List Variable) (ws us : List ℤ) → words_at ws (span_of v) ≡ words_at us (span_of v) → port_words vs ws ≡ port_words vs us → port_words (v ∷ vs) ws ≡ port_words (v ∷ vs) us
one_more v vs ws us first rest = go (is_word v.kind)
  where
    go : (b : Bool) → flat_map (words_at ws) (cond b (ports_of vs) (span_of v ∷ ports_of vs)) ≡ flat_map (words_at us) (cond b (ports_of vs) (span_of v ∷ ports_of vs))
    go true = rest
    go false = ap (λ l. l ++ port_words vs ws) first ∙ ap (λ l. words_at us (span_of v) ++ l) rest

-- a variable of words adds none
none_more : (v : Variable) (vs : List Variable) (ws : List ℤ) → is_word v.kind ≡ true → port_words (v ∷ vs) ws ≡ port_words vs ws
none_more v vs ws word = ap (λ b. flat_map (words_at ws) (cond b (ports_of vs) (span_of v ∷ ports_of vs))) word

-- a word before all variables
ports_behind : (n : ℕ) (vs : List Variable) (ws : List ℤ) (k : ℕ) (w : ℤ) → AreLaidOut n vs → k < n → port_words vs (set ws k w) ≡ port_words vs ws
ports_behind n [] ws k w laid less = refl
ports_behind n (v ∷ vs) ws k w laid less =
    one_more v vs (set ws k w) ws (ap (take v.words) (drop-set-lt v.first ws k w (omega (arith, laid.0, less)))) (ports_behind (n + v.words) vs ws k w laid.1 (omega (arith, less)))

ports_set : (n : ℕ) (vs : List Variable) (ws : List ℤ) (i k : ℕ) (w : ℤ) (v : Variable) → AreLaidOut n vs → slice_get vs i ≡ Some v → is_word v.kind ≡ true → k < v.words
    → port_words vs (set ws (v.first + k) w) ≡ port_words vs ws
ports_set n [] ws i k w v laid e word less = absurd (cc)
ports_set n (u ∷ vs) ws zero k w v laid e word less =
    let same : u ≡ v = same_variable u v e in
    let is : is_word u.kind ≡ true = ap (λ (x : Variable). is_word x.kind) same ∙ word in
    none_more u vs (set ws (v.first + k) w) is
    ∙ ports_behind (n + u.words) vs ws (v.first + k) w laid.1 (omega (arith, laid.0, less, ap (λ (x : Variable). x.first) same, ap (λ (x : Variable). x.words) same))
    ∙ sym (none_more u vs ws is)
ports_set n (u ∷ vs) ws (suc i) k w v laid e word less =
    one_more u vs (set ws (v.first + k) w) ws (span_behind u.words u.first ws (v.first + k) w (omega (arith, laid.0, begins_behind (port_in no_slots) (n + u.words) vs i v laid.1 e)))
    (ports_set (n + u.words) vs ws i k w v laid.1 e word less)

module _ (vs : List Variable) (i : ℕ) (v : Variable) (laid : AreLaidOut 0 vs) (there : slice_get vs i ≡ Some v) (word : is_word v.kind ≡ true) where
  pub ports_spliced : (ws : List ℤ) (k : ℕ) (ns : List ℤ) → k + length ns ≤ v.words → v.first + v.words ≤ length ws → port_words vs (spliced ws (v.first + k) ns) ≡ port_words vs ws
  ports_spliced ws k [] fits within = ap (port_words vs) (spliced_none ws (v.first + k))
  ports_spliced ws k (n ∷ ns) fits within =
      let next = set ws (v.first + k) n in
      let e : suc (v.first + k) ≡ v.first + suc k = omega arith in
      ap (port_words vs) (spliced_more ws (v.first + k) n ns (omega (arith, fits, within)) ∙ ap (λ j. spliced next j ns) e)
      ∙ ports_spliced next (suc k) ns (omega (arith, fits)) (omega (arith, within, length-set ws (v.first + k) n))
      ∙ ports_set 0 vs ws i k n v laid there word (omega (arith, fits))

-- ---- words of a frame are overwritten

same_names : (zs : List ℤ) (s : Slots) → NameTheSame zs s s
same_names [] s = tt
same_names (z ∷ zs) s = (refl, same_names zs s)

-- other words with the same ports among them
goes_by_words : (vs : List Variable) (others : List ℤ) (h : Held) (xs ys : List Item) (ws : List ℤ) → HeldStands vs others h xs → ys ≡ values_in (port_in h.slots) vs ws
    → ports_in (ports_of vs) ws ≡ ports_in (ports_of vs) h.words → length ws ≡ length h.words → GoesTo vs others h (record h { words = ws }) ys
goes_by_words vs others h xs ys ws stands values ports count = record {
  stands = record {
    values = values;
    slots = stands.slots;
    held = subst (λ l. AllIn (IsHeld h.slots) (l ++ others)) (sym ports) stands.held;
    once = subst (λ l. AreOnce (l ++ others)) (sym ports) stands.once;
  };
  same = same_names others h.slots;
  count = count;
}

module _ (u : ProgramUnit) (sound : IsSoundUnit u) (others : List ℤ) (h : Held) (xs : List Item) (sized : length h.words ≡ u.names.words) (stands : HeldStands u.names.variables others h xs) where
  abbrev vars : List Variable
  vars = u.names.variables

  -- words over some of a variable
  pub word_alike : (q : MeanSpan) (ns : List ℤ) → IsPlace u.names.variables true q → length ns ≤ q.count
      → GoesTo u.names.variables others h (record h { words = spliced h.words (word_number u.names.variables q) ns }) (written xs q ns)
  word_alike q ns place few =
      let v = place.variable in
      let at : first_of vars q.variable ≡ v.first = first_there vars q.variable v place.there in
      let fits : q.first + length ns ≤ v.words = omega (arith, place.within, few) in
      let within : v.first + v.words ≤ length h.words = omega (arith, sized, variable_within u q.variable v sound place.there) in
      goes_by_words vars others h xs (written xs q ns) (spliced h.words (word_number vars q) ns) stands
      (
      ap (λ l. written l q ns) stands.values
      ∙ writes_span (port_in h.slots) vars q.variable v sound.laid place.there h.words q.first ns place.kind fits within
      ∙ ap (λ f. values_in (port_in h.slots) vars (spliced h.words (f + q.first) ns)) (sym at)
      )
      (
      ap (λ f. ports_in (ports_of vars) (spliced h.words (f + q.first) ns)) at
      ∙ ap code.live (ports_spliced vars q.variable v sound.laid place.there place.kind h.words q.first ns fits within)
      )
      (spliced_length h.words (word_number vars q) ns (omega (arith, at, fits, within)))

  -- one word
  pub status_alike : (q : MeanSpan) (n : ℤ) → IsPlace u.names.variables true q → 1 ≤ q.count
      → GoesTo u.names.variables others h (record h { words = slice_set h.words (word_number u.names.variables q) n }) (written xs q (n ∷ []))
  status_alike q n place some =
      let there : word_number vars q < length h.words = omega (arith, sized, some, place_within u true q sound place) in
      subst (λ ws. GoesTo vars others h (record h { words = ws }) (written xs q (n ∷ [])))
      (spliced_more h.words (word_number vars q) n [] there ∙ spliced_none (slice_set h.words (word_number vars q) n) (suc (word_number vars q)))
      (word_alike q (n ∷ []) place some)

-- ---- the items of a message

-- no more than are taken are all
take_all : {X : Type 0} (xs : List X) (n : ℕ) → length xs ≤ n → take n xs ≡ xs
take_all [] zero few = refl
take_all [] (suc n) few = refl
take_all (x ∷ xs) zero few = absurd (omega (arith, few))
take_all (x ∷ xs) (suc n) few = ap (λ l. x ∷ l) (take_all xs n (omega (arith, few)))

-- what one change of the words and slots does, and lets go, is what that of the values does
abbrev Alike : List Variable → List ℤ → Held → Held × List PortValue → List Item × List PortValue → Type 0
Alike vs others h after xs = GoesTo vs others h after.0 xs.0 × (after.1 ≡ xs.1)

module _ (u : ProgramUnit) (sound : IsSoundUnit u) (others : List ℤ) where
  abbrev mine : List Variable
  mine = u.names.variables

  store_alike : (h : Held) (xs : List Item) → length h.words ≡ u.names.words → HeldStands mine others h xs → (q : MeanSpan) (m : Item) → IsPlace mine (holds_words mine q.variable) q → ItemMatches mine q m
      → Alike mine others h (stored h (target_of mine q) m) (mean.stored xs q m)
  store_alike h xs sized stands q (Words ns) place match =
      subst (λ o. Alike mine others h (stored h o (Words ns)) (mean.stored xs q (Words ns))) (sym (ap (λ b. cond b (operand.Words (code_span mine q)) (operand.Ports (code_span mine q))) match.0)) (
        subst (λ l. GoesTo mine others h (record h { words = spliced h.words (word_number mine q) l }) (written xs q ns)) (sym (take_all ns q.count match.1))
            (word_alike u sound others h xs sized stands q ns (subst (λ b. IsPlace mine b q) match.0 place) match.1),
        refl,
      )
  store_alike h xs sized stands q (Ports ps) place match =
      let v = place.variable in
      subst (λ o. Alike mine others h (stored h o (Ports ps)) (mean.stored xs q (Ports ps))) (sym (ap (λ b. cond b (operand.Words (code_span mine q)) (operand.Ports (code_span mine q))) match.0))
      (subst (λ l. Alike mine others h (all_exchanged h (word_number mine q) l) (mean.stored xs q (Ports ps))) (sym (take_all ps q.count match.1))
      (subst (λ f. Alike mine others h (all_exchanged h (f + q.first) ps) (mean.stored xs q (Ports ps))) (sym (first_there mine q.variable v place.there))
      (all_exchange_alike u sound others h xs sized stands q.variable v place.there (place.kind ∙ match.0) q.first ps (omega (arith, match.1, place.within)))))

  pub all_store_alike : (h : Held) (xs : List Item) → length h.words ≡ u.names.words → HeldStands u.names.variables others h xs → (qs : List MeanSpan) (m : Message)
      → AllIn (λ (q : MeanSpan). IsPlace u.names.variables (holds_words u.names.variables q.variable) q) qs → ItemsMatch u.names.variables qs m
      → GoesTo u.names.variables others h (all_stored h (map (target_of u.names.variables) qs) m).0 (stored_all xs qs m).0 × ((all_stored h (map (target_of u.names.variables) qs) m).1 ≡ (stored_all xs qs m).1)
  all_store_alike h xs sized stands [] [] places match = (goes_nowhere mine others h xs stands, refl)
  all_store_alike h xs sized stands [] (m ∷ ms) places match = absurd match
  all_store_alike h xs sized stands (q ∷ qs) [] places match = absurd match
  all_store_alike h xs sized stands (q ∷ qs) (m ∷ ms) places match =
      let first = store_alike h xs sized stands q m places.0 match.0 in
      let g = (stored h (target_of mine q) m).0 in
      let ys = (mean.stored xs q m).0 in
      let rest = all_store_alike g ys (first.0.count ∙ sized) first.0.stands qs ms places.1 match.1 in (
        goes_on mine others h g (all_stored g (map (target_of mine) qs) ms).0 ys (stored_all ys qs ms).0 first.0 rest.0,
        ap (λ l. l ++ (all_stored g (map (target_of mine) qs) ms).1) first.1 ∙ ap (λ l. (mean.stored xs q m).1 ++ l) rest.1,
      )

-- ---- a message of the types that a RECEIVE wants, within its limits

the_span : (a b : MeanSpan) → ◌≡◌ {A = Result MeanSpan Fault} (Ok a) (Ok b) → a ≡ b
the_span a b e = cc

the_spans : (a b : List MeanSpan) → ◌≡◌ {A = Result (List MeanSpan) Fault} (Ok a) (Ok b) → a ≡ b
the_spans a b e = cc

-- a place of words or of ports holds these
place_is : (vs : List Variable) (word : Bool) (q : MeanSpan) → IsPlace vs word q → holds_words vs q.variable ≡ word
place_is vs word q place =
    let other = place_holds vs word q place in
    sym other.kind ∙ ap (λ (v : Variable). is_word v.kind) (same_variable other.variable place.variable (sym other.there ∙ place.there)) ∙ place.kind

item_matches : (types : Types) (vs : List Variable) (k : Kind) (n : ℕ) (q : MeanSpan) (m : Item) → ItemFits types (reading.kind_of k) n m → holds_words vs q.variable ≡ is_word k → item_length m ≤ q.count → ItemMatches vs q m
item_matches types vs kind.Integer n q (Words ns) fits is few = (is, few)
item_matches types vs kind.Integer n q (Ports ps) fits is few = absurd fits
item_matches types vs kind.Logical n q (Words ns) fits is few = (is, few)
item_matches types vs kind.Logical n q (Ports ps) fits is few = absurd fits
item_matches types vs (kind.In t) n q (Words ns) fits is few = absurd fits
item_matches types vs (kind.In t) n q (Ports ps) fits is few = (is, few)
item_matches types vs (kind.Out t) n q (Words ns) fits is few = absurd fits
item_matches types vs (kind.Out t) n q (Ports ps) fits is few = (is, few)

-- the first item is within its limit, and those behind it within theirs
both_within : (a b : Bool) → a && b ≡ true → (a ≡ true) × (b ≡ true)
both_within true true e = (refl, refl)
both_within true false e = absurd (cc)
both_within false b e = absurd (cc)

few_of : (n k : ℕ) → nat_le n k ≡ true → n ≤ k
few_of n k e = grind (arith, nat_tests, e)

module _ (s : Scope) (sound : IsSoundUnit s.unit) (types : Types) where
  fields_match : (before : Message) (t : PortFields) (items : List Var) (n : ℕ) (qs : List MeanSpan) (m : Message) → TargetsFit s.unit t items → places_of s items n ≡ Ok qs → FieldsFit types before t m
      → fits_limits (limits_of qs) m ≡ true → ItemsMatch s.unit.names.variables qs m
  fields_match before NoFields [] n qs [] targets is fits within = subst (λ (l : List MeanSpan). ItemsMatch s.unit.names.variables l []) (the_spans [] qs is) tt
  fields_match before NoFields [] n qs (m ∷ ms) targets is fits within = absurd fits
  fields_match before NoFields (v ∷ vs) n qs m targets is fits within = absurd targets
  fields_match before (FieldThen r a b rest) [] n qs m targets is fits within = absurd targets
  fields_match before (FieldThen r a b rest) (v ∷ vs) n qs [] targets is fits within = absurd fits
  fields_match before (FieldThen r a b rest) (v ∷ vs) n qs (m ∷ ms) targets is fits within =
      let w = targets.0.0 in
      let first = parts (place_of s v n) _ qs is in
      let more = parts (places_of s vs (n + refs_in_var s v)) _ qs first.2 in
      let q = first.0 in
      let elements = elements_behind before (sizing_place b) b in
      let same : q ∷ more.0 ≡ qs = the_spans (q ∷ more.0) qs more.2 in
      let each = both_within (nat_le (item_length m) q.count) (fits_limits (limits_of more.0) ms) (subst (λ (l : List MeanSpan). fits_limits (limits_of l) (m ∷ ms) ≡ true) (sym same) within) in
      let place = (place_whole s sound w v n q targets.0.1 first.1).0 in
      subst (λ (l : List MeanSpan). ItemsMatch s.unit.names.variables l (m ∷ ms)) same (
        item_matches types s.unit.names.variables w.1.kind elements q m (subst (λ x. ItemFits types x elements m) (sym targets.0.2) fits.0)
            (place_is s.unit.names.variables (is_word w.1.kind) q place) (few_of (item_length m) q.count each.0),
        fields_match (before ++ m ∷ []) rest vs (n + refs_in_var s v) more.0 ms targets.1 more.1 fits.1 each.1,
      )

  pub message_matches : (t : PortFields) (items : List Var) (n : ℕ) (qs : List MeanSpan) (m : Message) → TargetsFit s.unit t items → places_of s items n ≡ Ok qs → MessageFits types t m → fits_limits (limits_of qs) m ≡ true
      → ItemsMatch s.unit.names.variables qs m
  message_matches = fields_match []
