-- What goes back to a caller by words is what goes back in the meaning.
use Rattle.std.proofs.Common.{◌≡◌, ℕ, zero, suc, ◌+◌, ◌<◌, ◌≤◌, ℤ, pos, Bool, true, false, not, cond, Some, None, option_to_list, List, [], ◌∷◌, ◌++◌, length, map, take, drop, set, get_or, slice_get, refl, sym, ap, ◌∙◌, arith}
use Rattle.std.specs.Prelude.{◌&&◌}
use Rattle.std.specs.Ordering.{int_eq}
use Rattle.std.proofs.lemmas.Bool.Decides.{nat_tests, Decides-int_eq}
use Rattle.std.proofs.lemmas.List.{append-nil, map-append, length-set, length-take, length-replicate, set-get_or, take-take}
use Rattle.fm_base.specs.Channels.{Item, Words, Ports}
use Rattle.fm_net.specs.Typed.{AllIn}
use Rattle.fm_tree.specs.declared.port_type.Kind.{Kind}
use Rattle.fm_tree.specs.declared.port_type.Kind.TheVariants as kind
use Rattle.fm_symbols.specs.declared.names.Variable.{Variable}
use Rattle.fm_mean.specs.Names.{ProgramUnit}
use Rattle.fm_mean.specs.Layout.{AreLaidOut}
use Rattle.fm_mean.specs.Places.{items_at, written_from, exchange, Returned, settled, port_back, ports_back, one_back, all_back, without_theirs}
use Rattle.fm_mean.specs.Calls as mean_calls
use Rattle.fm_code.specs.declared.body.Back.{Back}
use Rattle.fm_code.specs.Passing.{is_port, spliced, nulls, merged, ports_in, Given, back_fits, backs_fit, give_words, give_ports, give, give_all, back_words}
use Rattle.fm_gen_relation.specs.Sound.{is_word, words_among, IsSoundUnit}
use Rattle.fm_gen_relation.specs.Standing.{Slots, port_by, item_by, item_in, values_in}
use Rattle.fm_gen_relation.specs.Operands.{MeanBack, IsBack, first_of, holds_words, word_number, code_back}
use Rattle.fm_gen_relation.specs.Formals.{ports_of}
use Rattle.fm_gen_relation.specs.Laws.{GivesAlike, given_words}
use Rattle.fm_gen_relation.proofs.FrameWords.{item_read}
use Rattle.fm_gen_relation.proofs.Writes.{same_variable}
use Rattle.fm_gen_relation.proofs.PortWords.{first_there, ends_within, place_within, puts, comes_out, word_live}
use Rattle.fm_gen_relation.proofs.Held.{held_alike}
use Rattle.fm_gen_relation.proofs.Spans.{spliced_length, writes_span}
use Rattle.fm_gen_relation.proofs.GivenWords.{length-merged, span_given, word_at, word_given, none_given, more_given}

-- Ports.

zero_of : (z : ℤ) → int_eq z (pos 0) ≡ true → z ≡ pos 0
zero_of z e = (Decides-int_eq z (pos 0)).0 e

-- a word that is put where it stands
put_back : (ws : List ℤ) (k : ℕ) → set ws k (get_or ws k (pos 0)) ≡ ws
put_back ws k = set-get_or ws k (pos 0)

same_returned : (r s : Returned) → r.mine ≡ s.mine → r.theirs ≡ s.theirs → r.drops ≡ s.drops → r ≡ s
same_returned r s a b c = λ i. record { mine = a i; theirs = b i; drops = c i }

-- for what words given stand
abbrev pub standing : Slots → (mine theirs : List Variable) → Given → Returned
standing slots mine theirs g = record { mine = values_in slots mine g.mine; theirs = values_in slots theirs g.theirs; drops = map slots g.drops }

-- from an element of one variable to one of another, each of which holds ports
module _ (slots : Slots) (mine theirs : List Variable) (mine_laid : AreLaidOut 0 mine) (theirs_laid : AreLaidOut 0 theirs) (i f : ℕ) (to from : Variable)
    (to_at : slice_get mine i ≡ Some to) (from_at : slice_get theirs f ≡ Some from) (to_port : is_word to.kind ≡ false) (from_port : is_word from.kind ≡ false) where
  -- the words are there
  record AreThere (g : Given) : Type 0 where
    pub mine_there : first_of mine i + to.words ≤ length g.mine
    pub theirs_there : first_of theirs f + from.words ≤ length g.theirs

  settles : (g : Given) (k j : ℕ) → AreThere g → k < to.words → (t : ℤ) → t ≡ word_at g.theirs (first_of theirs f + j)
      → (b : Bool) → int_eq t (pos 0) ≡ b
      → settled (standing slots mine theirs g) i k (values_in slots theirs (set g.theirs (first_of theirs f + j) (pos 0))) (cond b None (Some (slots t)))
      ≡ standing slots mine theirs (record {
        mine = set g.mine (first_of mine i + k) (cond (not b) t (word_at g.mine (first_of mine i + k)));
        theirs = set g.theirs (first_of theirs f + j) (pos 0);
        drops = g.drops ++ cond (not b && is_port (word_at g.mine (first_of mine i + k))) (word_at g.mine (first_of mine i + k) ∷ []) [];
      })
  settles g k j there less t is true null = same_returned _ _
      (ap (values_in slots mine) (sym (put_back g.mine (first_of mine i + k))))
      (ap (values_in slots theirs) (sym (ap (set g.theirs (first_of theirs f + j)) (sym (zero_of t null) ∙ is) ∙ put_back g.theirs (first_of theirs f + j))))
      (ap (map slots) (sym (append-nil g.drops)))
  settles g k j there less t is false full =
      let a = first_of mine i + k in
      let port : port_by slots t ≡ Some (slots t) = ap (λ b. cond b None (Some (slots t))) full in
      same_returned _ _
      (sym (puts slots 0 mine g.mine i k t to mine_laid to_at to_port less ∙ ap (λ p. (exchange (values_in slots mine g.mine) i k p).0) port))
      refl
      (ap (λ l. map slots g.drops ++ l) (ap option_to_list (comes_out slots mine g.mine i k (Some (slots t)) to to_at to_port less (omega (arith, less, there.mine_there))) ∙ word_live slots (word_at g.mine a))
      ∙ sym (map-append slots g.drops (cond (is_port (word_at g.mine a)) (word_at g.mine a ∷ []) [])))

  port_stands : (g : Given) (k j : ℕ) → AreThere g → k < to.words → j < from.words
      → port_back (standing slots mine theirs g) f j i k ≡ standing slots mine theirs (word_given g (first_of theirs f + j) (first_of mine i + k))
  port_stands g k j there less few =
      let t = word_at g.theirs (first_of theirs f + j) in
      ap (λ xs. settled (standing slots mine theirs g) i k xs (exchange (values_in slots theirs g.theirs) f j None).1) (sym (puts slots 0 theirs g.theirs f j (pos 0) from theirs_laid from_at from_port few))
      ∙ ap (settled (standing slots mine theirs g) i k (values_in slots theirs (set g.theirs (first_of theirs f + j) (pos 0)))) (comes_out slots theirs g.theirs f j None from from_at from_port few (omega (arith, few, there.theirs_there)))
      ∙ settles g k j there less t refl (int_eq t (pos 0)) refl

  still_there : (g : Given) (b a : ℕ) → AreThere g → AreThere (word_given g b a)
  still_there g b a there = record {
    mine_there = omega (arith, there.mine_there, length-set g.mine a (cond (is_port (word_at g.theirs b)) (word_at g.theirs b) (word_at g.mine a)));
    theirs_there = omega (arith, there.theirs_there, length-set g.theirs b (pos 0));
  }

  ports_stand : (n : ℕ) (g : Given) (k j : ℕ) → AreThere g → k + n ≤ to.words → j + n ≤ from.words
      → ports_back (standing slots mine theirs g) f j i k n ≡ standing slots mine theirs (span_given g (first_of theirs f + j) (first_of mine i + k) n)
  ports_stand zero g k j there fit few = ap (standing slots mine theirs) (sym (none_given g (first_of theirs f + j) (first_of mine i + k)))
  ports_stand (suc n) g k j there fit few =
      let b : ℕ = first_of theirs f + j in
      let a : ℕ = first_of mine i + k in
      let next : Given = word_given g b a in
      let b_ahead : first_of theirs f + suc j ≡ suc b = omega arith in
      let a_ahead : first_of mine i + suc k ≡ suc a = omega arith in
      ap (λ r. ports_back r f (suc j) i (suc k) n) (port_stands g k j there (omega (arith, fit)) (omega (arith, few)))
      ∙ ports_stand n next (suc k) (suc j) (still_there g b a there) (omega (arith, fit)) (omega (arith, few))
      ∙ ap (λ c. standing slots mine theirs (span_given next c (first_of mine i + suc k) n)) b_ahead
      ∙ ap (λ c. standing slots mine theirs (span_given next (suc b) c n)) a_ahead
      ∙ ap (standing slots mine theirs) (sym (more_given g b a n (omega (arith, few, there.theirs_there)) (omega (arith, fit, there.mine_there))))

-- What one formal gives back.

words_item : (slots : Slots) (q : Kind) (zs : List ℤ) → is_word q ≡ true → item_by slots q zs ≡ Words zs
words_item slots kind.Integer zs e = refl
words_item slots kind.Logical zs e = refl
words_item slots (kind.In t) zs e = absurd (cc)
words_item slots (kind.Out t) zs e = absurd (cc)

ports_item : (slots : Slots) (q : Kind) (zs : List ℤ) → is_word q ≡ false → item_by slots q zs ≡ Ports (map (port_by slots) zs)
ports_item slots kind.Integer zs e = absurd (cc)
ports_item slots kind.Logical zs e = absurd (cc)
ports_item slots (kind.In t) zs e = refl
ports_item slots (kind.Out t) zs e = refl

pub holds_there : (vs : List Variable) (i : ℕ) (v : Variable) → slice_get vs i ≡ Some v → holds_words vs i ≡ is_word v.kind
holds_there [] i v e = absurd (cc)
holds_there (u ∷ vs) zero v e = ap (λ (x : Variable). is_word x.kind) (same_variable u v e)
holds_there (u ∷ vs) (suc i) v e = holds_there vs i v e

-- the words of two frames, as many as their variables have
record AreFull (mine theirs : List Variable) (g : Given) : Type 0 where
  pub mine_full : length g.mine ≡ words_among mine
  pub theirs_full : length g.theirs ≡ words_among theirs

module _ (slots : Slots) (mine theirs : List Variable) (mine_laid : AreLaidOut 0 mine) (theirs_laid : AreLaidOut 0 theirs) where
  abbrev code : MeanBack → Back
  code = code_back mine theirs

  place_fits : (b : MeanBack) → IsBack mine theirs b → word_number mine b.place + b.place.count ≤ words_among mine
  place_fits b back = place_within mine (is_word back.formal.kind) b.place mine_laid back.place

  formal_fits : (b : MeanBack) (back : IsBack mine theirs b) → first_of theirs b.formal + back.formal.words ≤ words_among theirs
  formal_fits b back = omega (arith, first_there theirs b.formal back.formal back.at, ends_within 0 theirs b.formal back.formal theirs_laid back.at)

  gives_words : (b : MeanBack) (g : Given) (back : IsBack mine theirs b) → AreFull mine theirs g → is_word back.formal.kind ≡ true
      → one_back (standing slots mine theirs g) b (item_in slots g.theirs back.formal) ≡ standing slots mine theirs (give_words (code b) g)
  gives_words b g back full word =
      let v : Variable = back.formal in
      let u : Variable = back.place.variable in
      let n : ℕ = b.place.count in
      let i : ℕ = b.place.variable in
      let k : ℕ = b.place.first in
      let xs : List Item = values_in slots mine g.mine in
      let ns : List ℤ = take n (drop v.first g.theirs) in
      let short : length ns ≤ n = omega (arith, length-take n (drop v.first g.theirs)) in
      ap (one_back (standing slots mine theirs g) b) (words_item slots v.kind (take v.words (drop v.first g.theirs)) word)
      ∙ same_returned (record { mine = written_from xs i k (take n (take v.words (drop v.first g.theirs))); theirs = values_in slots theirs g.theirs; drops = map slots g.drops })
      (standing slots mine theirs (give_words (code b) g))
      (ap (written_from xs i k) (take-take n v.words (drop v.first g.theirs) (omega (arith, back.words)))
      ∙ writes_span slots mine i u mine_laid back.place.there g.mine k ns (back.place.kind ∙ word) (omega (arith, short, back.place.within)) (omega (arith, full.mine_full, ends_within 0 mine i u mine_laid back.place.there))
      ∙ ap (λ a. values_in slots mine (spliced g.mine (a + k) ns)) (sym (first_there mine i u back.place.there))
      ∙ ap (λ a. values_in slots mine (spliced g.mine (word_number mine b.place) (take n (drop a g.theirs)))) (sym (first_there theirs b.formal v back.at)))
      refl refl

  gives_ports : (b : MeanBack) (g : Given) (back : IsBack mine theirs b) → AreFull mine theirs g → is_word back.formal.kind ≡ false
      → one_back (standing slots mine theirs g) b (item_in slots g.theirs back.formal) ≡ standing slots mine theirs (give_ports (code b) g)
  gives_ports b g back full port =
      let v : Variable = back.formal in
      let u : Variable = back.place.variable in
      let i : ℕ = b.place.variable in
      let from_first : first_of theirs b.formal + 0 ≡ first_of theirs b.formal = omega arith in
      ap (one_back (standing slots mine theirs g) b) (ports_item slots v.kind (take v.words (drop v.first g.theirs)) port)
      ∙ ports_stand slots mine theirs mine_laid theirs_laid i b.formal u v back.place.there back.at (back.place.kind ∙ port) port b.place.count g b.place.first 0
      (record {
        mine_there = omega (arith, full.mine_full, first_there mine i u back.place.there, ends_within 0 mine i u mine_laid back.place.there);
        theirs_there = omega (arith, full.theirs_full, formal_fits b back);
      })
      back.place.within (omega (arith, back.words))
      ∙ ap (λ a. standing slots mine theirs (span_given g a (word_number mine b.place) b.place.count)) from_first

  one_stands : (b : MeanBack) (g : Given) → IsBack mine theirs b → AreFull mine theirs g
      → one_back (standing slots mine theirs g) b (items_at (values_in slots theirs g.theirs) b.formal) ≡ standing slots mine theirs (give (code b) g)
  one_stands b g back full =
      ap (one_back (standing slots mine theirs g) b) (item_read slots g.theirs theirs b.formal back.formal back.at)
      ∙ go (is_word back.formal.kind) (gives_words b g back full) (gives_ports b g back full)
      ∙ ap (λ w. standing slots mine theirs (cond (not w) (give_ports (code b) g) (give_words (code b) g))) (sym (holds_there theirs b.formal back.formal back.at))
    where
      go : (w : Bool)
          → (w ≡ true → one_back (standing slots mine theirs g) b (item_in slots g.theirs back.formal) ≡ standing slots mine theirs (give_words (code b) g))
          → (w ≡ false → one_back (standing slots mine theirs g) b (item_in slots g.theirs back.formal) ≡ standing slots mine theirs (give_ports (code b) g))
          → one_back (standing slots mine theirs g) b (item_in slots g.theirs back.formal) ≡ standing slots mine theirs (cond (not w) (give_ports (code b) g) (give_words (code b) g))
      go true words ports = words refl
      go false words ports = ports refl

  -- the words stay as many
  words_kept : (b : MeanBack) (g : Given) → IsBack mine theirs b → AreFull mine theirs g → AreFull mine theirs (give_words (code b) g)
  words_kept b g back full =
      let ns : List ℤ = take b.place.count (drop (first_of theirs b.formal) g.theirs) in
      record {
        mine_full = spliced_length g.mine (word_number mine b.place) ns (omega (arith, place_fits b back, full.mine_full, length-take b.place.count (drop (first_of theirs b.formal) g.theirs))) ∙ full.mine_full;
        theirs_full = full.theirs_full;
      }

  ports_kept : (b : MeanBack) (g : Given) → IsBack mine theirs b → AreFull mine theirs g → AreFull mine theirs (give_ports (code b) g)
  ports_kept b g back full =
      let n : ℕ = b.place.count in
      let a : ℕ = word_number mine b.place in
      let f : ℕ = first_of theirs b.formal in
      let ms : List ℤ = take n (drop a g.mine) in
      let ts : List ℤ = take n (drop f g.theirs) in
      record {
        mine_full = spliced_length g.mine a (merged ms ts) (omega (arith, place_fits b back, full.mine_full, length-merged ms ts, length-take n (drop a g.mine))) ∙ full.mine_full;
        theirs_full = spliced_length g.theirs f (nulls n) (omega (arith, formal_fits b back, back.words, full.theirs_full, length-replicate n (pos 0))) ∙ full.theirs_full;
      }

  one_kept : (b : MeanBack) (g : Given) → IsBack mine theirs b → AreFull mine theirs g → AreFull mine theirs (give (code b) g)
  one_kept b g back full = go (not (holds_words theirs b.formal)) (words_kept b g back full) (ports_kept b g back full)
    where
      go : (port : Bool) → AreFull mine theirs (give_words (code b) g) → AreFull mine theirs (give_ports (code b) g) → AreFull mine theirs (cond port (give_ports (code b) g) (give_words (code b) g))
      go true words ports = ports
      go false words ports = words

  -- What all give back.

  all_stand : (bs : List MeanBack) (g : Given) → AllIn (IsBack mine theirs) bs → AreFull mine theirs g → all_back (standing slots mine theirs g) bs ≡ standing slots mine theirs (give_all (map code bs) g)
  all_stand [] g backs full = refl
  all_stand (b ∷ bs) g backs full = ap (λ r. all_back r bs) (one_stands b g backs.0 full) ∙ all_stand bs (give (code b) g) backs.1 (one_kept b g backs.0 full)

  all_kept : (bs : List MeanBack) (g : Given) → AllIn (IsBack mine theirs) bs → AreFull mine theirs g → AreFull mine theirs (give_all (map code bs) g)
  all_kept [] g backs full = full
  all_kept (b ∷ bs) g backs full = all_kept bs (give (code b) g) backs.1 (one_kept b g backs.0 full)

  one_fits : (b : MeanBack) (n k : ℕ) → IsBack mine theirs b → words_among mine ≡ n → words_among theirs ≡ k → back_fits n k (code b) ≡ true
  one_fits b n k back here there =
      let mine_within : word_number mine b.place + b.place.count ≤ n = omega (arith, here, place_fits b back) in
      let theirs_within : first_of theirs b.formal + b.place.count ≤ k = omega (arith, there, back.words, formal_fits b back) in
      grind (arith, nat_tests)

  all_fitting : (bs : List MeanBack) (n k : ℕ) → AllIn (IsBack mine theirs) bs → words_among mine ≡ n → words_among theirs ≡ k → backs_fit n k (map code bs) ≡ true
  all_fitting [] n k backs here there = refl
  all_fitting (b ∷ bs) n k backs here there = λ i. one_fits b n k backs.0 here there i && all_fitting bs n k backs.1 here there i

same_cost : (mine theirs : List Variable) (bs : List MeanBack) → mean_calls.back_words bs ≡ back_words (map (code_back mine theirs) bs)
same_cost mine theirs [] = refl
same_cost mine theirs (b ∷ bs) = ap (λ n. b.place.count + n) (same_cost mine theirs bs)

pub gives_alike : (slots : Slots) (mine theirs : ProgramUnit) (ws ts : List ℤ) (bs : List MeanBack)
    → IsSoundUnit mine → IsSoundUnit theirs → length ws ≡ mine.names.words → length ts ≡ theirs.names.words
    → AllIn (IsBack mine.names.variables theirs.names.variables) bs → GivesAlike slots mine theirs ws ts bs
gives_alike slots mine theirs ws ts bs sound callee_sound sized callee_sized backs =
    let mv : List Variable = mine.names.variables in
    let tv : List Variable = theirs.names.variables in
    let begun : Given = record { mine = ws; theirs = ts; drops = [] } in
    let ended : Given = given_words mine theirs ws ts bs in
    let here : length ws ≡ words_among mv = sized ∙ sound.counted in
    let there : length ts ≡ words_among tv = callee_sized ∙ callee_sound.counted in
    let full : AreFull mv tv begun = record { mine_full = here; theirs_full = there } in
    let stands : all_back (standing slots mv tv begun) bs ≡ standing slots mv tv ended = all_stand slots mv tv sound.laid callee_sound.laid bs begun backs full in
    record {
      fit = all_fitting slots mv tv sound.laid callee_sound.laid bs (length ws) (length ts) backs (sym here) (sym there);
      count = (all_kept slots mv tv sound.laid callee_sound.laid bs begun backs full).mine_full ∙ sym here;
      stand = ap (λ (r : Returned). r.mine) stands;
      drops = ap (λ (r : Returned). (without_theirs r).drops) stands
          ∙ ap (λ l. map slots ended.drops ++ l) (sym (held_alike slots tv ended.theirs))
          ∙ sym (map-append slots ended.drops (ports_in (ports_of tv) ended.theirs));
      cost = same_cost mv tv bs;
    }
