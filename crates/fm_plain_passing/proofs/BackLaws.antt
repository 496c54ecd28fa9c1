-- What formals give back: words one by one, and which of a formal's words or ports there are.
use Rattle.std.proofs.Common.{◌≡◌, ℕ, zero, suc, ℤ, pos, ◌+◌, ◌≤◌, ◌<◌, true, false, min, List, [], ◌∷◌, length, take, drop, get_or, slice_get, refl, ap, sym, ◌∙◌, arith}
use Rattle.std.proofs.lemmas.List.{length-take, at_drop_more, at_drop_all, get_or-take}
use Rattle.fm_base.specs.Channels.{Item}
use Rattle.fm_tree.specs.declared.port_type.Kind.{Kind}
use Rattle.fm_tree.specs.declared.port_type.Kind.TheVariants as kind
use Rattle.fm_symbols.specs.declared.names.Variable.{Variable}
use Rattle.fm_mean.specs.declared.place.Back.{Back}
use Rattle.fm_mean.specs.Places.{items_at, words_in, first_word, written, written_from, Returned, one_back, ports_back}
use Rattle.fm_plain_frame.specs.declared.word.Word.{Word}
use Rattle.fm_plain_frame.specs.Memory.{holds_ports, item_by, values_of}
use Rattle.fm_plain_passing.specs.Rooms.{is_of_ports}
use Rattle.fm_plain_passing.proofs.ExchangeLaws.{written_none, written_more}

-- ---- one word is that of its element

first-take : (ws : List ℤ) (k : ℕ) → k < length ws → first_word (take 1 (drop k ws)) ≡ get_or ws k (pos 0)
first-take [] k h = absurd (omega arith)
first-take (w ∷ ws) zero h = refl
first-take (w ∷ ws) (suc k) h = first-take ws k (omega arith)

-- ---- words that are left to copy

pub record CopiesRest (vs : List Item) (i k n : ℕ) (ws : List ℤ) (all : List Item) : Type 0 where
  pub rest : written_from vs i (k + n) (drop n ws) ≡ all

pub copies_none : (vs : List Item) (i k : ℕ) (ws : List ℤ) → CopiesRest vs i k 0 ws (written_from vs i k ws)
copies_none vs i k ws = let e : k + 0 ≡ k = omega arith in record { rest = ap (λ k. written_from vs i k ws) e }

copies_next : (vs : List Item) (i k n : ℕ) (ws : List ℤ) (w : ℤ) (all : List Item) → n < length ws → w ≡ get_or ws n (pos 0) → CopiesRest vs i k n ws all
    → CopiesRest (written_from vs i (k + n) (w ∷ [])) i k (n + 1) ws all
copies_next vs i k n ws w all h is rest =
    let e : k + (n + 1) ≡ suc (k + n) = omega arith in
    record {
      rest = ap (λ x. written_from (written_from vs i (k + n) (w ∷ [])) i x (drop (n + 1) ws)) e
          ∙ sym (written_more vs i (k + n) w (drop (n + 1) ws))
          ∙ ap (λ x. written_from vs i (k + n) (x ∷ drop (n + 1) ws)) is
          ∙ sym (at_drop_more (written_from vs i (k + n)) ws n (pos 0) h)
          ∙ rest.rest;
    }

-- as the loop does it, with the first words of a variable
pub copies_more : (vs next : List Item) (i k n count : ℕ) (ws : List ℤ) (w : ℤ) (all : List Item) → n < length ws → n < count → w ≡ first_word (take 1 (drop n ws)) → next ≡ written_from vs i (k + n) (w ∷ [])
    → CopiesRest vs i k n (take count ws) all → CopiesRest next i k (n + 1) (take count ws) all
copies_more vs next i k n count ws w all h below w_is is rest =
    let on = copies_next vs i k n (take count ws) w all (omega (arith, length-take count ws)) (w_is ∙ first-take ws n h ∙ sym (get_or-take count ws n (pos 0) below)) rest in
    record { rest = ap (λ v. written_from v i (k + (n + 1)) (drop (n + 1) (take count ws))) is ∙ on.rest }

pub copies_all : (vs : List Item) (i k n count : ℕ) (ws : List ℤ) (all : List Item) → min (length ws) count ≤ n → CopiesRest vs i k n (take count ws) all → vs ≡ all
copies_all vs i k n count ws all h rest =
    sym (written_none vs i (k + n)) ∙ sym (at_drop_all (written_from vs i (k + n)) (take count ws) n (omega (arith, length-take count ws))) ∙ rest.rest

-- ---- a formal of words, and one of ports

one_by : (r : Returned) (b : Back) (d : Kind) (ws : List Word) → holds_ports d ≡ true → one_back r b (item_by d ws) ≡ ports_back r b.formal 0 b.place.variable b.place.first b.place.count
one_by r b kind.Integer ws h = absurd (cc)
one_by r b kind.Logical ws h = absurd (cc)
one_by r b (kind.In t) ws h = refl
one_by r b (kind.Out t) ws h = refl

pub one_ports : (r : Returned) (b : Back) (vs : List Variable) (m : List Word) (i : ℕ) → is_of_ports (slice_get vs i) ≡ true
    → one_back r b (items_at (values_of vs m) i) ≡ ports_back r b.formal 0 b.place.variable b.place.first b.place.count
one_ports r b [] m i h = absurd (cc)
one_ports r b (v ∷ vs) m zero h = one_by r b v.kind (take v.words (drop v.first m)) h
one_ports r b (v ∷ vs) m (suc i) h = one_ports r b vs m i h

written_by : (r : Returned) (b : Back) (d : Kind) (ws : List Word) → holds_ports d ≡ false → one_back r b (item_by d ws) ≡ record r { mine = written r.mine b.place (take b.place.count (words_in (item_by d ws))) }
written_by r b kind.Integer ws h = refl
written_by r b kind.Logical ws h = refl
written_by r b (kind.In t) ws h = absurd (cc)
written_by r b (kind.Out t) ws h = absurd (cc)

pub one_words : (r : Returned) (b : Back) (vs : List Variable) (m : List Word) (i : ℕ) → is_of_ports (slice_get vs i) ≡ false
    → one_back r b (items_at (values_of vs m) i) ≡ record r { mine = written r.mine b.place (take b.place.count (words_in (items_at (values_of vs m) i))) }
one_words r b [] m i h = refl
one_words r b (v ∷ vs) m zero h = written_by r b v.kind (take v.words (drop v.first m)) h
one_words r b (v ∷ vs) m (suc i) h = one_words r b vs m i h
