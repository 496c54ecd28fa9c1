-- The end of a process: what stays in the words of its frame, and which ports are let go, is that of the meaning.
use Rattle.std.proofs.Common.{◌≡◌, ℕ, zero, suc, ◌+◌, ◌<◌, ◌≤◌, ℤ, pos, Bool, true, false, not, ◌&&◌, ◌||◌, cond, ◌==◌, Option, Some, None, List, [], ◌∷◌, ◌++◌, length, map, take, drop, slice_get, refl, sym, ap, ◌∙◌, subst, arith}
use Rattle.std.specs.List.{flat_map, filter_map, list_any}
use Rattle.std.specs.Ordering.{int_eq}
use Rattle.std.proofs.lemmas.Bool.{eq-eqb, eqb-true}
use Rattle.std.proofs.lemmas.List.{map-append, length-replicate}
use Rattle.std.proofs.lemmas.List.Elements.{filter-append}
use Rattle.std.proofs.lemmas.List.Folds.{list_any-append}
use Rattle.fm_base.specs.declared.port.PortValue.{PortValue}
use Rattle.fm_base.specs.Channels.{Item, Ports, item_ports}
use Rattle.fm_net.specs.Typed.{AllIn}
use Rattle.fm_tree.specs.declared.port_type.Kind.{Kind}
use Rattle.fm_tree.specs.declared.port_type.Kind.TheVariants as kind
use Rattle.fm_symbols.specs.declared.names.Variable.{Variable}
use Rattle.fm_mean.specs.Names.{ProgramUnit, formal_from, formal_place}
use Rattle.fm_mean.specs.Layout.{AreLaidOut}
use Rattle.fm_mean.specs.Calls as mean
use Rattle.fm_mean.specs.Calls.{is_formal, null_item}
use Rattle.fm_code.specs.declared.code.Formal.{Formal}
use Rattle.fm_code.specs.declared.code.Span.{Span}
use Rattle.fm_code.specs.Acts.{span_of as words_at}
use Rattle.fm_code.specs.Passing.{is_port, live, nulls, ports_in, spliced}
use Rattle.fm_proc_language.specs.Frames as code
use Rattle.fm_gen_relation.specs.Sound.{is_word, formals_among, words_among, IsSoundUnit}
use Rattle.fm_gen_relation.specs.Standing.{Slots, port_by, item_by, values_in}
use Rattle.fm_gen_relation.specs.Formals.{span_of, ports_of, formal_of, formal_if, formals_from, formals_of}
use Rattle.fm_gen_relation.proofs.Passing.{span_length}
use Rattle.fm_gen_relation.proofs.Spans.{spliced_length}
use Rattle.fm_gen_relation.proofs.Writes.{same_variable, begins_behind}
use Rattle.fm_proc_simulation.specs.SlotWords.{AreOnce}
use Rattle.fm_proc_simulation.proofs.PortLists.{IsParted, parted_none, all_mine, all_theirs}
use Rattle.fm_proc_simulation.proofs.Overlaid.{over_before, over_behind, over_there, SameBehind, spans_behind, values_behind}

-- Ports that leave NULL.

port_null : (slots : Slots) (zs : List ℤ) → map (port_by slots) (nulls (length zs)) ≡ mean.nulls (map (port_by slots) zs)
port_null slots [] = refl
port_null slots (z ∷ zs) = ap (λ l. None ∷ l) (port_null slots zs)

item_null : (slots : Slots) (q : Kind) (zs : List ℤ) → is_word q ≡ false → item_by slots q (nulls (length zs)) ≡ null_item (item_by slots q zs)
item_null slots kind.Integer zs e = absurd (cc)
item_null slots kind.Logical zs e = absurd (cc)
item_null slots (kind.In t) zs e = ap Ports (port_null slots zs)
item_null slots (kind.Out t) zs e = ap Ports (port_null slots zs)

-- and are let go
live_ports : (slots : Slots) (zs : List ℤ) → map slots (live zs) ≡ filter_map (λ p. p) (map (port_by slots) zs)
live_ports slots [] = refl
live_ports slots (z ∷ zs) = go (int_eq z (pos 0)) (live_ports slots zs)
  where
    go : (b : Bool) → map slots (live zs) ≡ filter_map (λ p. p) (map (port_by slots) zs)
        → map slots (cond (not b) (z ∷ live zs) (live zs)) ≡ filter_map (λ p. p) (cond b None (Some (slots z)) ∷ map (port_by slots) zs)
    go true rest = rest
    go false rest = ap (λ l. slots z ∷ l) rest

pub item_live : (slots : Slots) (q : Kind) (zs : List ℤ) → is_word q ≡ false → map slots (live zs) ≡ item_ports (item_by slots q zs)
item_live slots kind.Integer zs e = absurd (cc)
item_live slots kind.Logical zs e = absurd (cc)
item_live slots (kind.In t) zs e = live_ports slots zs
item_live slots (kind.Out t) zs e = live_ports slots zs

live_nulls : (n : ℕ) → live (nulls n) ≡ []
live_nulls zero = refl
live_nulls (suc n) = live_nulls n

-- One variable after the other.

-- what is kept of words, whose ports have these spans, is what is kept of the values for which they stand
record AreKept (slots : Slots) (n : ℕ) (values : List ℤ → List Item) (spans : List Span) (ws : List ℤ) (meant : List Item × List PortValue) (coded : List ℤ × List ℤ) : Type 1 where
  stay : meant.0 ≡ values coded.0
  drops : map slots coded.1 ≡ meant.1
  count : length coded.0 ≡ length ws
  before : (j m : ℕ) → j + m ≤ n → take m (drop j coded.0) ≡ take m (drop j ws)
  parted : IsParted coded.1 (ports_in spans coded.0) (ports_in spans ws)

same_parted : (xs ys zs yt zt : List ℤ) → ys ≡ yt → zs ≡ zt → IsParted xs ys zs → IsParted xs yt zt
same_parted xs ys zs yt zt y z p = subst (λ l. IsParted xs l zt) y (subst (λ l. IsParted xs ys l) z p)

module _ (slots : Slots) (fs : List Formal) where
  abbrev meant_kept : List Variable → List ℤ → List Item × List PortValue
  meant_kept vs ws = mean.kept vs (values_in slots vs ws)

  abbrev code_kept : List Variable → List ℤ → List ℤ × List ℤ
  code_kept vs ws = code.kept fs (ports_of vs) ws

  abbrev StandKept : ℕ → List Variable → List ℤ → Type 1
  StandKept n vs ws = AreKept slots n (values_in slots vs) (ports_of vs) ws (meant_kept vs ws) (code_kept vs ws)

  -- with a variable before them
  module _ (n : ℕ) (v : Variable) (vs : List Variable) (ws : List ℤ) (q : Kind) (at : v.first ≡ n) (laid : AreLaidOut (n + v.words) vs) (within : n + v.words + words_among vs ≤ length ws) where
    abbrev item : List ℤ → Item
    item zs = item_by slots q (take v.words (drop v.first zs))

    abbrev more_values : List ℤ → List Item
    more_values zs = item zs ∷ values_in slots vs zs

    -- the words of the variable
    abbrev mine : List ℤ
    mine = take v.words (drop v.first ws)

    abbrev without : List ℤ
    without = spliced ws v.first (nulls (length mine))

    abbrev more_meant : Bool → List Item × List PortValue
    more_meant b = cond b (item ws ∷ (meant_kept vs ws).0, (meant_kept vs ws).1) (null_item (item ws) ∷ (meant_kept vs ws).0, item_ports (item ws) ++ (meant_kept vs ws).1)

    abbrev more_code : Bool → List ℤ × List ℤ
    more_code b = cond b (code_kept vs ws) ((code_kept vs without).0, live (words_at ws (span_of v)) ++ (code_kept vs without).1)

    abbrev behind : List ℤ → List ℤ
    behind zs = flat_map (words_at zs) (ports_of vs)

    same_item : (zs others : List ℤ) → ((j m : ℕ) → j + m ≤ n + v.words → take m (drop j others) ≡ take m (drop j zs)) → take v.words (drop v.first others) ≡ take v.words (drop v.first zs)
    same_item zs others same = same v.first v.words (omega (arith, at))

    words_kept : (b : Bool) → is_word q ≡ true → StandKept (n + v.words) vs ws → AreKept slots n more_values (ports_of vs) ws (more_meant b) (code_kept vs ws)
    words_kept b word rest = record {
      stay = stays b ∙ (λ i. item_by slots q (sym (same_item ws (code_kept vs ws).0 rest.before) i) ∷ rest.stay i);
      drops = rest.drops ∙ sym (dropped b);
      count = rest.count;
      before = λ j m le. rest.before j m (omega (arith, le));
      parted = rest.parted;
    }
      where
        word_stays : (k : Kind) (zs : List ℤ) → is_word k ≡ true → null_item (item_by slots k zs) ≡ item_by slots k zs
        word_stays kind.Integer zs e = refl
        word_stays kind.Logical zs e = refl
        word_stays (kind.In t) zs e = absurd (cc)
        word_stays (kind.Out t) zs e = absurd (cc)

        no_ports : (k : Kind) (zs : List ℤ) → is_word k ≡ true → item_ports (item_by slots k zs) ≡ []
        no_ports kind.Integer zs e = refl
        no_ports kind.Logical zs e = refl
        no_ports (kind.In t) zs e = absurd (cc)
        no_ports (kind.Out t) zs e = absurd (cc)

        stays : (b : Bool) → (more_meant b).0 ≡ item ws ∷ (meant_kept vs ws).0
        stays true = refl
        stays false = ap (λ x. x ∷ (meant_kept vs ws).0) (word_stays q (take v.words (drop v.first ws)) word)

        dropped : (b : Bool) → (more_meant b).1 ≡ (meant_kept vs ws).1
        dropped true = refl
        dropped false = ap (λ l. l ++ (meant_kept vs ws).1) (no_ports q (take v.words (drop v.first ws)) word)

    port_stays : StandKept (n + v.words) vs ws → AreKept slots n more_values (span_of v ∷ ports_of vs) ws (more_meant true) (more_code true)
    port_stays rest =
        let zs : List ℤ = take v.words (drop v.first ws) in
        let there = same_item ws (code_kept vs ws).0 rest.before in
        record {
          stay = λ i. item_by slots q (sym there i) ∷ rest.stay i;
          drops = rest.drops;
          count = rest.count;
          before = λ j m le. rest.before j m (omega (arith, le));
          parted = same_parted (code_kept vs ws).1 (live zs ++ live (behind (code_kept vs ws).0)) (live zs ++ live (behind ws)) (ports_in (span_of v ∷ ports_of vs) (code_kept vs ws).0) (ports_in (span_of v ∷ ports_of vs) ws)
              (sym (filter-append is_port zs (behind (code_kept vs ws).0)) ∙ ap (λ l. live (l ++ behind (code_kept vs ws).0)) (sym there))
              (sym (filter-append is_port zs (behind ws)))
              (all_theirs (live zs) (code_kept vs ws).1 (live (behind (code_kept vs ws).0)) (live (behind ws)) rest.parted);
        }

    nulls_count : length (nulls (length mine)) ≡ v.words
    nulls_count = length-replicate (length mine) (pos 0) ∙ span_length ws v.first v.words (omega (arith, at, within))

    nulls_within : v.first + length (nulls (length mine)) ≤ length ws
    nulls_within = omega (arith, at, within, nulls_count)

    same_behind : SameBehind (n + v.words) ws without
    same_behind j le = over_behind ws v.first (nulls (length mine)) j nulls_within (omega (arith, at, le, nulls_count))

    port_leaves : is_word q ≡ false → StandKept (n + v.words) vs without → AreKept slots n more_values (span_of v ∷ ports_of vs) ws (more_meant false) (more_code false)
    port_leaves port rest =
        let zs : List ℤ = mine in
        let last : List ℤ = (code_kept vs without).0 in
        let values : values_in slots vs without ≡ values_in slots vs ws = values_behind slots (n + v.words) vs ws without laid same_behind in
        let null : take v.words (drop v.first last) ≡ nulls (length zs) =
        same_item without last rest.before ∙ ap (λ k. take k (drop v.first without)) (sym nulls_count) ∙ over_there ws v.first (nulls (length zs)) nulls_within in
        let item_is : item last ≡ null_item (item ws) = ap (item_by slots q) null ∙ item_null slots q zs port in
        record {
          stay = λ i. sym item_is i ∷ (ap (λ xs. (mean.kept vs xs).0) (sym values) ∙ rest.stay) i;
          drops = map-append slots (live zs) (code_kept vs without).1
              ∙ ap (λ l. l ++ map slots (code_kept vs without).1) (item_live slots q zs port)
              ∙ ap (λ l. item_ports (item ws) ++ l) (rest.drops ∙ ap (λ xs. (mean.kept vs xs).1) values);
          count = rest.count ∙ spliced_length ws v.first (nulls (length zs)) nulls_within;
          before = λ j m le. rest.before j m (omega (arith, le)) ∙ over_before ws v.first (nulls (length zs)) j m nulls_within (omega (arith, le, at));
          parted = same_parted (live zs ++ (code_kept vs without).1) (live (behind last)) (live zs ++ live (behind without)) (ports_in (span_of v ∷ ports_of vs) last) (ports_in (span_of v ∷ ports_of vs) ws)
              (ap (λ l. l ++ live (behind last)) (sym (live_nulls (length zs))) ∙ sym (filter-append is_port (nulls (length zs)) (behind last)) ∙ ap (λ l. live (l ++ behind last)) (sym null))
              (ap (λ l. live zs ++ live l) (spans_behind (n + v.words) vs ws without laid same_behind) ∙ sym (filter-append is_port zs (behind ws)))
              (all_mine (live zs) (code_kept vs without).1 (live (behind last)) (live (behind without)) rest.parted);
        }

    port_kept : (a b : Bool) → a ≡ b → is_word q ≡ false → StandKept (n + v.words) vs ws → StandKept (n + v.words) vs without → AreKept slots n more_values (span_of v ∷ ports_of vs) ws (more_meant b) (more_code a)
    port_kept true true e port here there = port_stays here
    port_kept true false e port here there = absurd (cc)
    port_kept false true e port here there = absurd (cc)
    port_kept false false e port here there = port_leaves port there

  -- what code tells of ports is what the meaning says of their variable
  abbrev pub Agrees : Variable → Type 0
  Agrees v = is_word v.kind ≡ false → code.is_kept fs (span_of v) ≡ mean.is_kept v

  one_more : (n : ℕ) (v : Variable) (vs : List Variable) (ws : List ℤ) → v.first ≡ n → AreLaidOut (n + v.words) vs → n + v.words + words_among vs ≤ length ws → Agrees v
      → StandKept (n + v.words) vs ws → StandKept (n + v.words) vs (code.nulled ws (span_of v)) → StandKept n (v ∷ vs) ws
  one_more n v vs ws at laid within agree here there = go v.kind agree
    where
      go : (q : Kind) → (is_word q ≡ false → code.is_kept fs (span_of v) ≡ mean.is_kept v)
          → AreKept slots n (λ zs. item_by slots q (take v.words (drop v.first zs)) ∷ values_in slots vs zs) (cond (is_word q) (ports_of vs) (span_of v ∷ ports_of vs)) ws
          (mean.kept (v ∷ vs) (item_by slots q (take v.words (drop v.first ws)) ∷ values_in slots vs ws)) (code.kept fs (cond (is_word q) (ports_of vs) (span_of v ∷ ports_of vs)) ws)
      go kind.Integer e = words_kept n v vs ws kind.Integer at laid within (mean.is_kept v) refl here
      go kind.Logical e = words_kept n v vs ws kind.Logical at laid within (mean.is_kept v) refl here
      go (kind.In t) e = port_kept n v vs ws (kind.In t) at laid within (code.is_kept fs (span_of v)) (mean.is_kept v) (e refl) refl here there
      go (kind.Out t) e = port_kept n v vs ws (kind.Out t) at laid within (code.is_kept fs (span_of v)) (mean.is_kept v) (e refl) refl here there

  stand_kept : (n : ℕ) (vs : List Variable) (ws : List ℤ) → AreLaidOut n vs → n + words_among vs ≤ length ws → AllIn Agrees vs → StandKept n vs ws
  stand_kept n [] ws laid within agree = record { stay = refl; drops = refl; count = refl; before = λ j m le. refl; parted = parted_none }
  stand_kept n (v ∷ vs) ws laid within agree =
      let inside : n + v.words + words_among vs ≤ length ws = omega (arith, within) in
      let some : ℕ = length (words_at ws (span_of v)) in
      let count : length (nulls some) ≡ v.words = length-replicate some (pos 0) ∙ span_length ws v.first v.words (omega (arith, laid.0, inside)) in
      one_more n v vs ws laid.0 laid.1 inside agree.0
      (stand_kept (n + v.words) vs ws laid.1 inside agree.1)
      (stand_kept (n + v.words) vs (code.nulled ws (span_of v)) laid.1 (omega (arith, inside, spliced_length ws v.first (nulls some) (omega (arith, laid.0, inside, count)))) agree.1)

-- Which ports are kept.

abbrev tests : Span → Formal → Bool
tests s f = f.port && not f.input && (f.span.first == s.first)

or_true : (b : Bool) → (b || true) ≡ true
or_true true = refl
or_true false = refl

last_false : (a b : Bool) → (a && b && false) ≡ false
last_false true true = refl
last_false true false = refl
last_false false true = refl
last_false false false = refl

inner_false : (a b : Bool) → (a && false && b) ≡ false
inner_false true true = refl
inner_false true false = refl
inner_false false true = refl
inner_false false false = refl

-- a formal is among those of so many numbers
found : (s : Span) (vs : List Variable) (v : Variable) (count a k : ℕ) → k < count → slice_get vs (formal_from 0 (a + k) vs) ≡ Some v → tests s (formal_of v) ≡ true → list_any (tests s) (formals_from vs a count) ≡ true
found s vs v zero a k less there is = absurd (omega (arith, less))
found s vs v (suc count) a zero less there is =
    let mine = formal_if (slice_get vs (formal_from 0 a vs)) in
    let rest = formals_from vs (suc a) count in
    let e : a ≡ a + 0 = omega arith in
    list_any-append (tests s) mine rest
    ∙ ap (λ m. list_any (tests s) (formal_if (slice_get vs (formal_from 0 m vs))) || list_any (tests s) rest) e
    ∙ ap (λ o. list_any (tests s) (formal_if o) || list_any (tests s) rest) there
    ∙ ap (λ b. b || false || list_any (tests s) rest) is
found s vs v (suc count) a (suc k) less there is =
    let mine = formal_if (slice_get vs (formal_from 0 a vs)) in
    let rest = formals_from vs (suc a) count in
    let e : suc a + k ≡ a + suc k = omega arith in
    list_any-append (tests s) mine rest
    ∙ ap (λ b. list_any (tests s) mine || b) (found s vs v count (suc a) k (omega (arith, less)) (ap (λ m. slice_get vs (formal_from 0 m vs)) e ∙ there) is)
    ∙ or_true (list_any (tests s) mine)

-- no formal passes
none : (s : Span) (vs : List Variable) (count a : ℕ) → 1 ≤ a → ((k : ℕ) (w : Variable) → 1 ≤ k → slice_get vs (formal_from 0 k vs) ≡ Some w → tests s (formal_of w) ≡ false)
    → list_any (tests s) (formals_from vs a count) ≡ false
none s vs zero a one fail = refl
none s vs (suc count) a one fail =
    let mine = formal_if (slice_get vs (formal_from 0 a vs)) in
    let rest = formals_from vs (suc a) count in
    list_any-append (tests s) mine rest
    ∙ ap (λ b. list_any (tests s) mine || b) (none s vs count (suc a) (omega arith) fail)
    ∙ ap (λ b. b || false) (go (slice_get vs (formal_from 0 a vs)) (λ w e. fail a w one e))
  where
    go : (o : Option Variable) → ((w : Variable) → o ≡ Some w → tests s (formal_of w) ≡ false) → list_any (tests s) (formal_if o) ≡ false
    go None fails = refl
    go (Some w) fails = ap (λ b. b || false) (fails w refl)

from_on : (i n : ℕ) (vs : List Variable) → i ≤ formal_from i n vs
from_on i n [] = omega arith
from_on i n (v ∷ vs) = go (v.formal == n) (from_on (suc i) n vs)
  where
    go : (b : Bool) → suc i ≤ formal_from (suc i) n vs → i ≤ cond b i (formal_from (suc i) n vs)
    go true h = omega arith
    go false h = omega (arith, h)

-- a formal has its number
number_there : (vs : List Variable) (i j n : ℕ) (w : Variable) → formal_from i n vs ≡ i + j → slice_get vs j ≡ Some w → w.formal ≡ n
number_there [] i j n w e there = absurd (cc)
number_there (v ∷ vs) i j n w e there = go (v.formal == n) refl j e there (λ k e there. number_there vs (suc i) k n w e there)
  where
    go : (b : Bool) → (v.formal == n) ≡ b → (j : ℕ) → cond b i (formal_from (suc i) n vs) ≡ i + j → slice_get (v ∷ vs) j ≡ Some w
        → ((k : ℕ) → formal_from (suc i) n vs ≡ suc i + k → slice_get vs k ≡ Some w → w.formal ≡ n) → w.formal ≡ n
    go true is zero e there rest = ap (λ (x : Variable). x.formal) (sym (same_variable v w there)) ∙ eqb-true v.formal n is
    go true is (suc j) e there rest = absurd (omega (arith, e))
    go false is zero e there rest = absurd (omega (arith, e, from_on (suc i) n vs))
    go false is (suc j) e there rest = rest j (omega (arith, e)) there

-- where each variable has words, the first words of two differ
same_first : (slots : Slots) (n : ℕ) (vs : List Variable) (i j : ℕ) (v w : Variable) → AreLaidOut n vs → AllIn (λ (v : Variable). 0 < v.words) vs → slice_get vs i ≡ Some v → slice_get vs j ≡ Some w → v.first ≡ w.first → v ≡ w
same_first slots n [] i j v w laid some here there e = absurd (cc)
same_first slots n (x ∷ vs) zero zero v w laid some here there e = sym (same_variable x v here) ∙ same_variable x w there
same_first slots n (x ∷ vs) zero (suc j) v w laid some here there e =
    absurd (omega (arith, laid.0, some.0, e, ap (λ (y : Variable). y.first) (same_variable x v here), begins_behind slots (n + x.words) vs j w laid.1 there))
same_first slots n (x ∷ vs) (suc i) zero v w laid some here there e =
    absurd (omega (arith, laid.0, some.0, e, ap (λ (y : Variable). y.first) (same_variable x w there), begins_behind slots (n + x.words) vs i v laid.1 here))
same_first slots n (x ∷ vs) (suc i) (suc j) v w laid some here there e = same_first slots (n + x.words) vs i j v w laid.1 some.1 here there e

-- each formal is the one with its number, and these are as many as the formals
abbrev pub AreNumbered : ProgramUnit → Type 0
AreNumbered u = (v : Variable) (i : ℕ) → slice_get u.names.variables i ≡ Some v → is_formal v.formal ≡ true → (n : ℕ) × (formal_place u (suc n) ≡ i) × (n < length (formals_among u.names.variables))

kept_parts : (input formal : Bool) → cond input false formal ≡ true → (input ≡ false) × (formal ≡ true)
kept_parts true formal e = absurd (cc)
kept_parts false formal e = (refl, e)

left_parts : (input formal : Bool) → cond input false formal ≡ false → formal ≡ true → input ≡ true
left_parts true formal e h = refl
left_parts false formal e h = absurd (cc)

formal_number : (n m : ℕ) → n ≡ m → 1 ≤ m → is_formal n ≡ true
formal_number zero m e h = absurd (omega (arith, e, h))
formal_number (suc n) m e h = refl

module _ (slots : Slots) (u : ProgramUnit) (sound : IsSoundUnit u) (numbered : AreNumbered u) where
  abbrev vars : List Variable
  vars = u.names.variables

  -- a formal without INTENT(IN) is found by its first word
  is_found : (i : ℕ) (v : Variable) → slice_get vars i ≡ Some v → is_word v.kind ≡ false → mean.is_kept v ≡ true → code.is_kept (formals_of vars) (span_of v) ≡ true
  is_found i v there port stays =
      let parts = kept_parts v.input (is_formal v.formal) stays in
      let number = numbered v i there parts.1 in
      let e : 1 + number.0 ≡ suc number.0 = omega arith in
      found (span_of v) vars v (length (formals_among vars)) 1 number.0 number.2 (ap (λ n. slice_get vars (formal_from 0 n vars)) e ∙ ap (slice_get vars) number.1 ∙ there)
      (ap (λ b. not b && not v.input && (v.first == v.first)) port ∙ ap (λ b. not b && (v.first == v.first)) parts.0 ∙ eq-eqb v.first v.first refl)

  -- any other isn't
  is_other : (i : ℕ) (v : Variable) → slice_get vars i ≡ Some v → mean.is_kept v ≡ false → code.is_kept (formals_of vars) (span_of v) ≡ false
  is_other i v there leaves = none (span_of v) vars (length (formals_among vars)) 1 (omega arith) fails
    where
      fails : (k : ℕ) (w : Variable) → 1 ≤ k → slice_get vars (formal_from 0 k vars) ≡ Some w → tests (span_of v) (formal_of w) ≡ false
      fails k w one at = go (w.first == v.first) refl
        where
          go : (b : Bool) → (w.first == v.first) ≡ b → (not (is_word w.kind) && not w.input && b) ≡ false
          go false e = last_false (not (is_word w.kind)) (not w.input)
          go true e =
              let same : w ≡ v = same_first slots 0 vars (formal_from 0 k vars) i w v sound.laid sound.some at there (eqb-true w.first v.first e) in
              let number : v.formal ≡ k = ap (λ (x : Variable). x.formal) (sym same) ∙ number_there vars 0 (formal_from 0 k vars) k w (omega arith) at in
              let input : v.input ≡ true = left_parts v.input (is_formal v.formal) leaves (formal_number v.formal k number one) in
              ap (λ b. not (is_word w.kind) && not b && true) (ap (λ (x : Variable). x.input) same ∙ input) ∙ inner_false (not (is_word w.kind)) true

  agree_at : (i : ℕ) (v : Variable) → slice_get vars i ≡ Some v → is_word v.kind ≡ false → code.is_kept (formals_of vars) (span_of v) ≡ mean.is_kept v
  agree_at i v there port = go (mean.is_kept v) refl
    where
      go : (b : Bool) → mean.is_kept v ≡ b → code.is_kept (formals_of vars) (span_of v) ≡ b
      go true e = is_found i v there port e
      go false e = is_other i v there e

-- what is a fact at each place
all_at : {X : Type 0} (Fact : X → Type 0) (xs : List X) → ((i : ℕ) (x : X) → slice_get xs i ≡ Some x → Fact x) → AllIn Fact xs
all_at Fact [] at = tt
all_at Fact (x ∷ xs) at = (at 0 x refl, all_at Fact xs (λ i y e. at (suc i) y e))

-- The end.

abbrev pub code_left : ProgramUnit → List ℤ → List ℤ × List ℤ
code_left u ws = code.kept (formals_of u.names.variables) (ports_of u.names.variables) ws

abbrev pub meant_left : (ℤ → PortValue) → ProgramUnit → List ℤ → List Item × List PortValue
meant_left slots u ws = mean.kept u.names.variables (values_in slots u.names.variables ws)

-- what stays and what is let go is that of the meaning; and both together are the ports that were there
pub record KeptAlike (slots : ℤ → PortValue) (u : ProgramUnit) (ws : List ℤ) : Type 1 where
  pub stay : (meant_left slots u ws).0 ≡ values_in slots u.names.variables (code_left u ws).0
  pub drops : map slots (code_left u ws).1 ≡ (meant_left slots u ws).1
  pub count : length (code_left u ws).0 ≡ length ws
  pub facts : (Fact : ℤ → Type 0) → AllIn Fact (ports_in (ports_of u.names.variables) ws) → AllIn Fact (ports_in (ports_of u.names.variables) (code_left u ws).0) × AllIn Fact (code_left u ws).1
  pub once : (others : List ℤ) → AreOnce (ports_in (ports_of u.names.variables) ws ++ others)
      → AreOnce ((code_left u ws).1 ++ (ports_in (ports_of u.names.variables) (code_left u ws).0 ++ others))

pub kept_alike : (slots : ℤ → PortValue) (u : ProgramUnit) (ws : List ℤ) → IsSoundUnit u → AreNumbered u → length ws ≡ u.names.words → KeptAlike slots u ws
kept_alike slots u ws sound numbered count =
    let fs = formals_of u.names.variables in
    let agree = all_at (Agrees slots fs) u.names.variables (agree_at slots u sound numbered) in
    let kept = stand_kept slots fs 0 u.names.variables ws sound.laid (omega (arith, count, sound.counted)) agree in
    record {
      stay = kept.stay;
      drops = kept.drops;
      count = kept.count;
      facts = λ Fact h. ((kept.parted.0 Fact h).1, (kept.parted.0 Fact h).0);
      once = kept.parted.1;
    }
