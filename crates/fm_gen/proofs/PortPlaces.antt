-- What stands at a place in a frame of code: the number of its first word, and the port there.
use Rattle.std.proofs.Common.{◌≡◌, ℕ, zero, suc, ◌+◌, ◌<◌, ◌≤◌, ℤ, pos, Bool, true, false, cond, Option, Some, None, List, [], ◌∷◌, length, map, take, drop, get_or, refl, sym, ap, subst, ◌∙◌, arith}
use Rattle.std.specs.Prelude.{slice_get, unwrap_or, nat_lt}
use Rattle.std.specs.Option.{option_map}
use Rattle.std.proofs.lemmas.Bool.Decides.{nat_tests}
use Rattle.std.proofs.lemmas.List.{length-map}
use Rattle.std.proofs.lemmas.Option.{slice_get-map, slice_get-get_or}
use Rattle.fm_base.specs.declared.port.PortValue.{PortValue}
use Rattle.fm_base.specs.Channels.{Item, Words, Ports}
use Rattle.fm_net.specs.Typed.{AllIn}
use Rattle.fm_tree.specs.PortFields.{FieldKind}
use Rattle.fm_tree.specs.PortReading as reading
use Rattle.fm_tree.specs.declared.port_type.Kind.{Kind}
use Rattle.fm_tree.specs.declared.port_type.Kind.TheVariants as kind
use Rattle.fm_symbols.specs.declared.names.Variable.{Variable}
use Rattle.fm_mean.specs.Names.{ProgramUnit}
use Rattle.fm_mean.specs.Places.{items_at, ports_in, exchanged, exchange, port_at, emptied_place}
use Rattle.fm_mean.specs.Fits.{Types, ItemFits, MayStand, sort_of_variable, sort_at}
use Rattle.fm_mean.proofs.Sizes.{in_all}
use Rattle.fm_mean.proofs.Sorts.{sort_there}
use Rattle.fm_code.specs.declared.body.Frame.{Frame}
use Rattle.fm_code.specs.Acts.{Act, found, at_word}
use Rattle.fm_gen_relation.specs.Sound.{is_word}
use Rattle.fm_gen_relation.specs.Standing.{Slots, port_by, item_by, values_in, IsFrame}
use Rattle.fm_gen_relation.specs.Operands.{MeanSpan, first_of, word_number, IsPlace}
use Rattle.fm_gen_relation.proofs.FrameWords.{item_read, item_fits, element_there, element_read}
use Rattle.fm_gen_relation.proofs.FrameWords as frame_words

-- A place that is left NULL gives what was there.

exchanged_port : (ps : List (Option PortValue)) (k : ℕ) → (exchanged ps k None).1 ≡ unwrap_or (slice_get ps k) None
exchanged_port [] k = refl
exchanged_port (p ∷ ps) zero = refl
exchanged_port (p ∷ ps) (suc k) = exchanged_port ps k

exchange_port : (xs : List Item) (i k : ℕ) → (exchange xs i k None).1 ≡ unwrap_or (slice_get (ports_in (items_at xs i)) k) None
exchange_port [] i k = refl
exchange_port (Words ws ∷ xs) zero k = refl
exchange_port (Ports ps ∷ xs) zero k = exchanged_port ps k
exchange_port (x ∷ xs) (suc i) k = exchange_port xs i k

pub emptied_port : (xs : List Item) (q : MeanSpan) → (emptied_place xs q).1 ≡ port_at xs q
emptied_port xs q = exchange_port xs q.variable q.first

-- Variables.

same_variable : (v w : Variable) → Some v ≡ Some w → v ≡ w
same_variable v w e = cc

same_sort : (r t : FieldKind) → Some r ≡ Some t → r ≡ t
same_sort r t e = cc

first_there : (vs : List Variable) (i : ℕ) (v : Variable) → slice_get vs i ≡ Some v → first_of vs i ≡ v.first
first_there [] i v e = absurd (cc)
first_there (w ∷ vs) zero v e = ap (λ (x : Variable). x.first) (same_variable w v e)
first_there (w ∷ vs) (suc i) v e = first_there vs i v e

module _ (types : Types) (slots : Slots) where
  words_full : (q : Kind) (n : ℕ) (ws : List ℤ) → ItemFits types (reading.kind_of q) n (item_by slots q ws) → length ws ≡ n
  words_full kind.Integer n ws h = h
  words_full kind.Logical n ws h = h.0
  words_full (kind.In t) n ws h = sym (length-map ws (port_by slots)) ∙ h.0
  words_full (kind.Out t) n ws h = sym (length-map ws (port_by slots)) ∙ h.0

  ports_read : (q : Kind) (ws : List ℤ) → is_word q ≡ false → ports_in (item_by slots q ws) ≡ map (port_by slots) ws
  ports_read kind.Integer ws e = absurd (cc)
  ports_read kind.Logical ws e = absurd (cc)
  ports_read (kind.In t) ws e = refl
  ports_read (kind.Out t) ws e = refl

  ports_fit : (q : Kind) (n : ℕ) (ws : List ℤ) → is_word q ≡ false → ItemFits types (reading.kind_of q) n (item_by slots q ws) → AllIn (MayStand types (reading.kind_of q)) (map (port_by slots) ws)
  ports_fit kind.Integer n ws e h = absurd (cc)
  ports_fit kind.Logical n ws e h = absurd (cc)
  ports_fit (kind.In t) n ws e h = h.1
  ports_fit (kind.Out t) n ws e h = h.1

-- the port word of a place: it reads as the port there, and that one may stand at a place of its sort
pub record PortHere (types : Types) (slots : Slots) (vs : List Variable) (ws : List ℤ) (q : MeanSpan) : Type 0 where
  pub slot : ℤ
  pub at : slice_get ws (word_number vs q) ≡ Some slot
  pub port : port_at (values_in slots vs ws) q ≡ port_by slots slot
  pub fits : (r : FieldKind) → sort_at vs q.variable ≡ Some r → MayStand types r (port_by slots slot)

module _ (u : ProgramUnit) (slots : Slots) (m : Frame) (frame : IsFrame u slots m) where
  abbrev vars : List Variable
  vars = u.names.variables

  abbrev part : Variable → List ℤ
  part v = take v.words (drop v.first m.words)

  full : (i : ℕ) (v : Variable) → slice_get vars i ≡ Some v → length (part v) ≡ v.words
  full i v e = words_full frame.types slots v.kind v.words (part v) (item_fits frame.types slots m.words vars i v frame.fits e)

  -- the first word of a place is one of the frame
  pub place_there : (word : Bool) (q : MeanSpan) → IsPlace u.names.variables word q → 1 ≤ q.count → word_number u.names.variables q < length m.words
  place_there word q place some =
      let v = place.variable in
      let inside : q.first < v.words = omega (arith, place.within, some) in
      omega (arith, element_there m.words v.first v.words q.first (full q.variable v place.there) inside, first_there vars q.variable v place.there)

  -- so its number is found
  pub at_place : (word : Bool) (q : MeanSpan) → IsPlace u.names.variables word q → 1 ≤ q.count → (g : ℕ → Act)
      → at_word m (pos (word_number u.names.variables q)) g ≡ g (word_number u.names.variables q)
  at_place word q place some g =
      let less : word_number vars q < length m.words = place_there word q place some in
      let inside : nat_lt (word_number vars q) (length m.words) ≡ true = grind (arith, nat_tests) in
      ap (λ c. found (cond c (Some (word_number vars q)) None) g) inside

  pub port_here : (q : MeanSpan) → IsPlace u.names.variables false q → 1 ≤ q.count → PortHere frame.types slots u.names.variables m.words q
  port_here q place some =
      let v = place.variable in
      let ws = part v in
      let k = q.first in
      let whole : length ws ≡ v.words = full q.variable v place.there in
      let inside : k < v.words = omega (arith, place.within, some) in
      let among : k < length ws = omega (arith, inside, whole) in
      let slot = get_or ws k (pos 0) in
      let read : slice_get (map (port_by slots) ws) k ≡ Some (port_by slots slot) = slice_get-map (port_by slots) ws k ∙ ap (option_map (port_by slots)) (slice_get-get_or ws k (pos 0) among) in
      let all = ports_fit frame.types slots v.kind v.words ws place.kind (item_fits frame.types slots m.words vars q.variable v frame.fits place.there) in
      record {
        slot = slot;
        at = ap (λ n. slice_get m.words (n + k)) (first_there vars q.variable v place.there) ∙ element_read m.words v.first v.words k whole inside ∙ ap Some (frame_words.first_of ws k);
        port =
            ap (λ x. unwrap_or (slice_get (ports_in x) k) None) (item_read slots m.words vars q.variable v place.there)
            ∙ ap (λ ps. unwrap_or (slice_get ps k) None) (ports_read frame.types slots v.kind ws place.kind)
            ∙ ap (λ o. unwrap_or o None) read;
        fits = λ r sort.
            subst (λ t. MayStand frame.types t (port_by slots slot)) (same_sort (sort_of_variable v) r (sym (sort_there vars q.variable v place.there) ∙ sort))
            (in_all (MayStand frame.types (sort_of_variable v)) (map (port_by slots) ws) k (port_by slots slot) all read);
      }
