-- What is sent from the words of a frame, with ports in their slots, is what is sent from the values for which they stand.
use Rattle.std.proofs.Common.{◌≡◌, ℕ, zero, suc, ◌+◌, ◌<◌, ◌≤◌, ℤ, pos, false, Option, Some, None, List, [], ◌∷◌, length, map, take, drop, set, get_or, replicate, slice_get, refl, sym, ap, ◌∙◌, subst, arith}
use Rattle.std.proofs.lemmas.List.{drop-set-lt, length-set}
use Rattle.std.proofs.Math.Seq.{drop-cons}
use Rattle.fm_base.specs.declared.port.PortValue.{PortValue}
use Rattle.fm_base.specs.Channels.{Item, Words, Ports}
use Rattle.fm_net.specs.Typed.{AllIn}
use Rattle.fm_symbols.specs.declared.names.Variable.{Variable}
use Rattle.fm_mean.specs.Names.{ProgramUnit}
use Rattle.fm_mean.specs.Places as mean
use Rattle.fm_mean.specs.Places.{items_at, words_in, words_of, exchange, exchange_all, taken_ports}
use Rattle.fm_mean.specs.declared.place.Actual.{Actual}
use Rattle.fm_mean.specs.declared.place.Actual.TheVariants.{Given, Taken}
use Rattle.fm_mean.specs.declared.place.Span.{Span}
use Rattle.fm_code.specs.Passing.{spliced, nulls}
use Rattle.fm_gen_relation.specs.Sound.{is_word, IsSoundUnit}
use Rattle.fm_gen_relation.specs.Operands.{IsPlace, of_length, item_of, IsItem, word_number}
use Rattle.fm_gen_relation.proofs.PortWords.{first_there}
use Rattle.fm_gen_relation.proofs.Passing.{variable_within, place_read}
use Rattle.fm_gen_relation.proofs.Spans.{spliced_none, spliced_more, exchanges_words}
use Rattle.fm_proc_language.specs.Slots.{Slots, port_in, taken, all_taken}
use Rattle.fm_proc_language.specs.Frames.{Held, exchanged, item_from, message_from}
use Rattle.fm_proc_simulation.specs.SlotWords.{HeldStands, GoesTo}
use Rattle.fm_proc_simulation.proofs.Exchange.{exchange_alike, goes_on, goes_nowhere}

-- ---- the words of a span, whose ports are taken one by one

abbrev emptied : Held → ℕ → ℕ → Held × List (Option PortValue)
emptied h k zero = (h, [])
emptied h k (suc n) = ((emptied (exchanged h k None).0 (suc k) n).0, (exchanged h k None).1 ∷ (emptied (exchanged h k None).0 (suc k) n).1)

-- what an item of ports leaves and takes
abbrev span_taken : Held → ℕ → ℕ → Held × List (Option PortValue)
span_taken h k n = (record { words = spliced h.words k (nulls n); slots = (all_taken h.slots (take n (drop k h.words))).1 }, (all_taken h.slots (take n (drop k h.words))).0)

-- the same by the words that are left and those that are taken
abbrev taken_by : Slots → (left words : List ℤ) → Held × List (Option PortValue)
taken_by s left ws = (record { words = left; slots = (all_taken s ws).1 }, (all_taken s ws).0)

take-behind : (n k : ℕ) (ws : List ℤ) (z : ℤ) → k < length ws → get_or ws k (pos 0) ∷ take n (drop (suc k) (set ws k z)) ≡ take (suc n) (drop k ws)
take-behind n k ws z less =
    ap (λ l. get_or ws k (pos 0) ∷ take n l) (drop-set-lt (suc k) ws k z (omega arith))
    ∙ ap (take (suc n)) (sym (drop-cons ws k (pos 0) less))

emptied_is : (h : Held) (k n : ℕ) → k + n ≤ length h.words → emptied h k n ≡ span_taken h k n
emptied_is h k zero le = ap (λ l. taken_by h.slots l []) (sym (spliced_none h.words k))
emptied_is h k (suc n) le =
    let w = get_or h.words k (pos 0) in
    let next = set h.words k (pos 0) in
    let less : k < length h.words = omega (arith, le) in
    ap (λ (r : Held × List (Option PortValue)). let q : Held × List (Option PortValue) = (r.0, (taken h.slots w).0 ∷ r.1) in q)
    (emptied_is (exchanged h k None).0 (suc k) n (omega (arith, le, length-set h.words k (pos 0))))
    ∙ ap (λ l. taken_by h.slots l (w ∷ take n (drop (suc k) next))) (sym (spliced_more h.words k (pos 0) (nulls n) less))
    ∙ ap (taken_by h.slots (spliced h.words k (nulls (suc n)))) (take-behind n k h.words (pos 0) less)

-- ---- items

-- they are as they were, where the words of all variables are
items_kept : (vs : List Variable) (xs ys : List Item) → ((j : ℕ) → words_in (items_at ys j) ≡ words_in (items_at xs j)) → (args : List Actual) → AllIn (IsItem vs xs) args → AllIn (IsItem vs ys) args
items_kept vs xs ys same [] are = tt
items_kept vs xs ys same (Given ws None ∷ more) are = (are.0, items_kept vs xs ys same more are.1)
items_kept vs xs ys same (Given ws (Some s) ∷ more) are =
    ((are.0.0, are.0.1 ∙ ap (λ l. take (length ws) (drop s.first l)) (sym (same s.variable))), items_kept vs xs ys same more are.1)
items_kept vs xs ys same (Taken s ∷ more) are = (are.0, items_kept vs xs ys same more are.1)

kept_behind : (vs : List Variable) (xs : List Item) (a : Actual) (more : List Actual) → AllIn (IsItem vs xs) more → AllIn (IsItem vs (mean.item_from xs a).0) more
kept_behind vs xs (Given ws back) more are = are
kept_behind vs xs (Taken s) more are = items_kept vs xs (taken_ports xs s).0 (exchanges_words xs s.variable s.first (replicate s.count None)) more are

-- ---- messages

-- the words after a change, and what came out
abbrev GoesAlike : {X : Type 0} → ProgramUnit → List ℤ → Held → Held × X → List Item × X → Type 0
GoesAlike u others h a b = GoesTo u.names.variables others h a.0 b.0 × (a.1 ≡ b.1)

run_alike : (u : ProgramUnit) (sound : IsSoundUnit u) (others : List ℤ) (i : ℕ) (v : Variable) → slice_get u.names.variables i ≡ Some v → is_word v.kind ≡ false
    → (n k : ℕ) (h : Held) (xs : List Item) → length h.words ≡ u.names.words → HeldStands u.names.variables others h xs → k + n ≤ v.words
    → GoesAlike u others h (emptied h (v.first + k) n) (exchange_all xs i k (replicate n None))
run_alike u sound others i v there port zero k h xs count stands le = (goes_nowhere u.names.variables others h xs stands, refl)
run_alike u sound others i v there port (suc n) k h xs count stands le =
    let vs = u.names.variables in
    let next = (exchanged h (v.first + k) None).0 in
    let ys = (exchange xs i k None).0 in
    let ahead : v.first + suc k ≡ suc (v.first + k) = omega arith in
    let one = exchange_alike u sound others h xs count stands i k v there port (omega (arith, le)) None in
    let rest = run_alike u sound others i v there port n (suc k) next ys (one.0.count ∙ count) one.0.stands (omega (arith, le)) in
    let more : GoesAlike u others next (emptied next (suc (v.first + k)) n) (exchange_all ys i (suc k) (replicate n None)) =
    subst (λ j. GoesAlike u others next (emptied next j n) (exchange_all ys i (suc k) (replicate n None))) ahead rest in (
      goes_on vs others h next (emptied next (suc (v.first + k)) n).0 ys (exchange_all ys i (suc k) (replicate n None)).0 one.0 more.0,
      ap (λ p. p ∷ (emptied next (suc (v.first + k)) n).1) one.1 ∙ ap (λ l. (exchange xs i k None).1 ∷ l) more.1,
    )

-- the ports of a place
ports_alike : (u : ProgramUnit) (sound : IsSoundUnit u) (others : List ℤ) (h : Held) (xs : List Item) → length h.words ≡ u.names.words → HeldStands u.names.variables others h xs
    → (s : Span) → IsPlace u.names.variables false s → GoesAlike u others h (span_taken h (word_number u.names.variables s) s.count) (taken_ports xs s)
ports_alike u sound others h xs count stands s at =
    let vs = u.names.variables in
    let v = at.variable in
    let number : v.first + s.first ≡ word_number vs s = ap (λ f. f + s.first) (sym (first_there vs s.variable v at.there)) in
    let within = variable_within u s.variable v sound at.there in
    subst (λ j. GoesAlike u others h (span_taken h j s.count) (taken_ports xs s)) number
    (subst (λ r. GoesAlike u others h r (taken_ports xs s)) (emptied_is h (v.first + s.first) s.count (omega (arith, within, at.within, count)))
    (run_alike u sound others s.variable v at.there at.kind s.count s.first h xs count stands at.within))

item_alike : (u : ProgramUnit) (sound : IsSoundUnit u) (others : List ℤ) (h : Held) (xs : List Item) → length h.words ≡ u.names.words → HeldStands u.names.variables others h xs
    → (a : Actual) → IsItem u.names.variables xs a → GoesAlike u others h (item_from h (item_of u.names.variables a)) (mean.item_from xs a)
item_alike u sound others h xs count stands (Given [] None) is = (goes_nowhere u.names.variables others h xs stands, refl)
item_alike u sound others h xs count stands (Given (w ∷ []) None) is = (goes_nowhere u.names.variables others h xs stands, refl)
item_alike u sound others h xs count stands (Given (w ∷ v ∷ ws) None) is = absurd (omega (arith, is))
item_alike u sound others h xs count stands (Given ws (Some s)) is =
    let vs = u.names.variables in
    (goes_nowhere vs others h xs stands, ap Words (sym (is.1 ∙ ap (λ ys. words_of ys (of_length ws s)) stands.values ∙ place_read (port_in h.slots) vs h.words (of_length ws s) is.0)))
item_alike u sound others h xs count stands (Taken s) is =
    let gone = ports_alike u sound others h xs count stands s is in
    (gone.0, ap Ports gone.1)

pub message_alike : (u : ProgramUnit) → IsSoundUnit u → (others : List ℤ) (h : Held) (xs : List Item) → length h.words ≡ u.names.words → HeldStands u.names.variables others h xs
    → (args : List Actual) → AllIn (IsItem u.names.variables xs) args
    → GoesTo u.names.variables others h (message_from h (map (item_of u.names.variables) args)).0 (mean.message_from xs args).0
    × ((message_from h (map (item_of u.names.variables) args)).1 ≡ (mean.message_from xs args).1)
message_alike u sound others h xs count stands [] are = (goes_nowhere u.names.variables others h xs stands, refl)
message_alike u sound others h xs count stands (a ∷ more) are =
    let vs = u.names.variables in
    let after = item_from h (item_of vs a) in
    let left = mean.item_from xs a in
    let one = item_alike u sound others h xs count stands a are.0 in
    let rest = message_alike u sound others after.0 left.0 (one.0.count ∙ count) one.0.stands more (kept_behind vs xs a more are.1) in (
      goes_on vs others h after.0 (message_from after.0 (map (item_of vs) more)).0 left.0 (mean.message_from left.0 more).0 one.0 rest.0,
      ap (λ i. i ∷ (message_from after.0 (map (item_of vs) more)).1) one.1 ∙ ap (λ l. left.1 ∷ l) rest.1,
    )
