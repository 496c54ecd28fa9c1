-- What one port word of a frame is to the values of the variables: what is put there, what comes out, and what a move and
-- a close let go.
use Rattle.std.proofs.Common.{◌≡◌, ℕ, zero, suc, ◌+◌, ◌<◌, ◌≤◌, ℤ, pos, Bool, true, false, not, cond, Option, Some, None, option_to_list, List, [], ◌∷◌, length, map, take, drop, set, get_or, slice_get, refl, sym, ap, ◌∙◌, arith}
use Rattle.std.specs.Ordering.{int_eq}
use Rattle.std.proofs.lemmas.List.{length-set, length-take, length-drop, drop-set-add, get_or-take, get_or-drop}
use Rattle.fm_base.specs.declared.port.PortValue.{PortValue}
use Rattle.fm_base.specs.Channels.{Ports}
use Rattle.fm_tree.specs.declared.port_type.Kind.{Kind}
use Rattle.fm_tree.specs.declared.port_type.Kind.TheVariants as kind
use Rattle.fm_symbols.specs.declared.names.Variable.{Variable}
use Rattle.fm_mean.specs.Layout.{AreLaidOut}
use Rattle.fm_mean.specs.Places.{exchanged, item_exchanged, exchange, put_port, emptied_place}
use Rattle.fm_code.specs.Passing.{live}
use Rattle.fm_code.specs.Statements.{moved, word_at}
use Rattle.fm_gen_relation.specs.Sound.{is_word, words_among}
use Rattle.fm_gen_relation.specs.Standing.{Slots, port_by, item_by, item_in, values_in}
use Rattle.fm_gen_relation.specs.Operands.{MeanSpan, IsPlace, first_of, word_number}
use Rattle.fm_gen_relation.proofs.Writes.{same_variable, take-set-all, behind, all_before, begins_behind}

-- Layout.

pub first_there : (vs : List Variable) (i : ℕ) (v : Variable) → slice_get vs i ≡ Some v → first_of vs i ≡ v.first
first_there [] i v e = absurd (cc)
first_there (u ∷ vs) zero v e = ap (λ (x : Variable). x.first) (same_variable u v e)
first_there (u ∷ vs) (suc i) v e = first_there vs i v e

-- a variable ends where those before it and itself do
pub ends_within : (n : ℕ) (vs : List Variable) (i : ℕ) (v : Variable) → AreLaidOut n vs → slice_get vs i ≡ Some v → v.first + v.words ≤ n + words_among vs
ends_within n [] i v laid e = absurd (cc)
ends_within n (u ∷ vs) zero v laid e =
    let same : u ≡ v = same_variable u v e in
    omega (arith, laid.0, ap (λ (x : Variable). x.first) same, ap (λ (x : Variable). x.words) same)
ends_within n (u ∷ vs) (suc i) v laid e = omega (arith, ends_within (n + u.words) vs i v laid.1 e)

-- the words of a place are among those of the frame
pub place_within : (vs : List Variable) (word : Bool) (s : MeanSpan) → AreLaidOut 0 vs → IsPlace vs word s → word_number vs s + s.count ≤ words_among vs
place_within vs word s laid place =
    omega (arith, place.within, first_there vs s.variable place.variable place.there, ends_within 0 vs s.variable place.variable laid place.there)

-- One exchange.

exchanged_word : (slots : Slots) (zs : List ℤ) (k : ℕ) (z : ℤ) → map (port_by slots) (set zs k z) ≡ (exchanged (map (port_by slots) zs) k (port_by slots z)).0
exchanged_word slots [] k z = refl
exchanged_word slots (x ∷ zs) zero z = refl
exchanged_word slots (x ∷ zs) (suc k) z = ap (λ l. port_by slots x ∷ l) (exchanged_word slots zs k z)

exchanged_out : (slots : Slots) (zs : List ℤ) (k : ℕ) (p : Option PortValue) → k < length zs → (exchanged (map (port_by slots) zs) k p).1 ≡ port_by slots (get_or zs k (pos 0))
exchanged_out slots [] k p less = absurd (omega (arith, less))
exchanged_out slots (x ∷ zs) zero p less = refl
exchanged_out slots (x ∷ zs) (suc k) p less = exchanged_out slots zs k p (omega (arith, less))

item_word : (slots : Slots) (q : Kind) (zs : List ℤ) (k : ℕ) (z : ℤ) → is_word q ≡ false → item_by slots q (set zs k z) ≡ (item_exchanged (item_by slots q zs) k (port_by slots z)).0
item_word slots kind.Integer zs k z e = absurd (cc)
item_word slots kind.Logical zs k z e = absurd (cc)
item_word slots (kind.In t) zs k z e = ap Ports (exchanged_word slots zs k z)
item_word slots (kind.Out t) zs k z e = ap Ports (exchanged_word slots zs k z)

item_out : (slots : Slots) (q : Kind) (zs : List ℤ) (k : ℕ) (p : Option PortValue) → is_word q ≡ false → k < length zs → (item_exchanged (item_by slots q zs) k p).1 ≡ port_by slots (get_or zs k (pos 0))
item_out slots kind.Integer zs k p e less = absurd (cc)
item_out slots kind.Logical zs k p e less = absurd (cc)
item_out slots (kind.In t) zs k p e less = exchanged_out slots zs k p less
item_out slots (kind.Out t) zs k p e less = exchanged_out slots zs k p less

-- an element of a variable is put
pub puts : (slots : Slots) (n : ℕ) (vs : List Variable) (ws : List ℤ) (i k : ℕ) (z : ℤ) (v : Variable) → AreLaidOut n vs → slice_get vs i ≡ Some v → is_word v.kind ≡ false → k < v.words
    → values_in slots vs (set ws (first_of vs i + k) z) ≡ (exchange (values_in slots vs ws) i k (port_by slots z)).0
puts slots n [] ws i k z v laid e q less = absurd (cc)
puts slots n (u ∷ vs) ws zero k z v laid e q less =
    let same : u ≡ v = same_variable u v e in
    let short : k < u.words = omega (arith, less, ap (λ (x : Variable). x.words) same) in
    let rest = values_in slots vs (set ws (u.first + k) z) in
    ap (λ l. item_by slots u.kind l ∷ rest) (ap (take u.words) (drop-set-add u.first ws k z) ∙ take-set-all u.words (drop u.first ws) k z)
    ∙ ap (λ x. x ∷ rest) (item_word slots u.kind (take u.words (drop u.first ws)) k z (ap (λ (x : Variable). is_word x.kind) same ∙ q))
    ∙ ap (λ l. (item_exchanged (item_in slots ws u) k (port_by slots z)).0 ∷ l) (all_before slots (n + u.words) vs ws (u.first + k) z laid.1 (omega (arith, laid.0, short)))
puts slots n (u ∷ vs) ws (suc i) k z v laid e q less =
    let later : u.first + u.words ≤ first_of vs i + k = omega (arith, laid.0, begins_behind slots (n + u.words) vs i v laid.1 e, first_there vs i v e) in
    ap (λ x. x ∷ values_in slots vs (set ws (first_of vs i + k) z)) (behind slots ws u (first_of vs i + k) z later)
    ∙ ap (λ l. item_in slots ws u ∷ l) (puts slots (n + u.words) vs ws i k z v laid.1 e q less)

word_of_item : (f n : ℕ) (ws : List ℤ) (k : ℕ) → k < n → get_or (take n (drop f ws)) k (pos 0) ≡ get_or ws (f + k) (pos 0)
word_of_item f n ws k less = get_or-take n (drop f ws) k (pos 0) less ∙ get_or-drop f ws k (pos 0)

-- whatever is put, what was there comes out
pub comes_out : (slots : Slots) (vs : List Variable) (ws : List ℤ) (i k : ℕ) (p : Option PortValue) (v : Variable) → slice_get vs i ≡ Some v → is_word v.kind ≡ false → k < v.words → first_of vs i + k < length ws
    → (exchange (values_in slots vs ws) i k p).1 ≡ port_by slots (get_or ws (first_of vs i + k) (pos 0))
comes_out slots [] ws i k p v e q less there = absurd (cc)
comes_out slots (u ∷ vs) ws zero k p v e q less there =
    let same : u ≡ v = same_variable u v e in
    let short : k < u.words = omega (arith, less, ap (λ (x : Variable). x.words) same) in
    item_out slots u.kind (take u.words (drop u.first ws)) k p (ap (λ (x : Variable). is_word x.kind) same ∙ q)
    (omega (arith, there, short, length-take u.words (drop u.first ws), length-drop u.first ws))
    ∙ ap (port_by slots) (word_of_item u.first u.words ws k short)
comes_out slots (u ∷ vs) ws (suc i) k p v e q less there = comes_out slots vs ws i k p v e q less there

-- The word of a place.

pub port_within : (vs : List Variable) (ws : List ℤ) (q : MeanSpan) → AreLaidOut 0 vs → length ws ≡ words_among vs → IsPlace vs false q → 1 ≤ q.count → word_number vs q < length ws
port_within vs ws q laid full place one = omega (arith, full, one, place_within vs false q laid place)

pub put_alike : (slots : Slots) (vs : List Variable) (ws : List ℤ) (q : MeanSpan) (z : ℤ) → AreLaidOut 0 vs → IsPlace vs false q → 1 ≤ q.count
    → values_in slots vs (set ws (word_number vs q) z) ≡ (put_port (values_in slots vs ws) q (port_by slots z)).0
put_alike slots vs ws q z laid place one = puts slots 0 vs ws q.variable q.first z place.variable laid place.there place.kind (omega (arith, place.within, one))

pub put_gives : (slots : Slots) (vs : List Variable) (ws : List ℤ) (q : MeanSpan) (p : Option PortValue) → AreLaidOut 0 vs → length ws ≡ words_among vs → IsPlace vs false q → 1 ≤ q.count
    → (put_port (values_in slots vs ws) q p).1 ≡ port_by slots (get_or ws (word_number vs q) (pos 0))
put_gives slots vs ws q p laid full place one =
    comes_out slots vs ws q.variable q.first p place.variable place.there place.kind (omega (arith, place.within, one)) (port_within vs ws q laid full place one)

-- a place that is left NULL
pub empty_alike : (slots : Slots) (vs : List Variable) (ws : List ℤ) (q : MeanSpan) → AreLaidOut 0 vs → IsPlace vs false q → 1 ≤ q.count
    → values_in slots vs (set ws (word_number vs q) (pos 0)) ≡ (emptied_place (values_in slots vs ws) q).0
empty_alike slots vs ws q laid place one = put_alike slots vs ws q (pos 0) laid place one

-- What is let go.

-- the port of one word
pub word_live : (slots : Slots) (z : ℤ) → option_to_list (port_by slots z) ≡ map slots (live (z ∷ []))
word_live slots z = go (int_eq z (pos 0))
  where
    go : (b : Bool) → option_to_list (cond b None (Some (slots z))) ≡ map slots (cond (not b) (z ∷ []) [])
    go true = refl
    go false = refl

pub close_alike : (slots : Slots) (vs : List Variable) (ws : List ℤ) (q : MeanSpan) → AreLaidOut 0 vs → length ws ≡ words_among vs → IsPlace vs false q → 1 ≤ q.count
    → option_to_list (emptied_place (values_in slots vs ws) q).1 ≡ map slots (live (word_at ws (word_number vs q) ∷ []))
close_alike slots vs ws q laid full place one = ap option_to_list (put_gives slots vs ws q None laid full place one) ∙ word_live slots (get_or ws (word_number vs q) (pos 0))

-- what a port that moves leaves, and what it finds
module _ (slots : Slots) (vs : List Variable) (ws : List ℤ) (p q : MeanSpan) (laid : AreLaidOut 0 vs) (full : length ws ≡ words_among vs) (from : IsPlace vs false p) (one : 1 ≤ p.count) (into : IsPlace vs false q) (some : 1 ≤ q.count) where
  abbrev left : List ℤ
  left = set ws (word_number vs p) (pos 0)

  abbrev found : ℤ
  found = get_or ws (word_number vs p) (pos 0)

  left_full : length left ≡ words_among vs
  left_full = length-set ws (word_number vs p) (pos 0) ∙ full

  pub move_alike : values_in slots vs (moved ws (word_number vs p) (word_number vs q))
      ≡ (put_port (emptied_place (values_in slots vs ws) p).0 q (emptied_place (values_in slots vs ws) p).1).0
  move_alike =
      put_alike slots vs left q found laid into some
      ∙ ap (λ xs. (put_port xs q (port_by slots found)).0) (empty_alike slots vs ws p laid from one)
      ∙ ap (λ o. (put_port (emptied_place (values_in slots vs ws) p).0 q o).0) (sym (put_gives slots vs ws p None laid full from one))

  pub move_lets_go : option_to_list (put_port (emptied_place (values_in slots vs ws) p).0 q (emptied_place (values_in slots vs ws) p).1).1
      ≡ map slots (live (word_at (set ws (word_number vs p) (pos 0)) (word_number vs q) ∷ []))
  move_lets_go =
      ap (λ xs. option_to_list (put_port xs q (emptied_place (values_in slots vs ws) p).1).1) (sym (empty_alike slots vs ws p laid from one))
      ∙ ap option_to_list (put_gives slots vs left q (emptied_place (values_in slots vs ws) p).1 laid left_full into some)
      ∙ word_live slots (get_or left (word_number vs q) (pos 0))
