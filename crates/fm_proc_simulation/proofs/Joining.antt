-- What a child gives back to its parent goes by the values for which the words of both stand.
use Rattle.std.proofs.Common.{◌≡◌, ℕ, zero, suc, ◌+◌, ◌<◌, ◌≤◌, ℤ, Bool, true, false, not, cond, Option, Some, None, option_to_list, List, [], ◌∷◌, ◌++◌, length, map, take, drop, slice_get, refl, sym, ap, ◌∙◌, subst, arith}
use Rattle.std.proofs.lemmas.List.{length-take, take-take}
use Rattle.fm_base.specs.declared.port.PortValue.{PortValue}
use Rattle.fm_base.specs.Channels.{Item, message_ports}
use Rattle.fm_net.specs.Typed.{AllIn}
use Rattle.fm_tree.specs.declared.port_type.Kind.{Kind}
use Rattle.fm_tree.specs.declared.port_type.Kind.TheVariants as kind
use Rattle.fm_symbols.specs.declared.names.Variable.{Variable}
use Rattle.fm_mean.specs.Names.{ProgramUnit}
use Rattle.fm_mean.specs.Places.{items_at, written, written_from, exchange, Returned, settled, port_back, ports_back, one_back, all_back}
use Rattle.fm_code.specs.declared.body.Back.{Back}
use Rattle.fm_code.specs.Passing.{spliced, live, ports_in}
use Rattle.fm_gen_relation.specs.Sound.{is_word, IsSoundUnit}
use Rattle.fm_gen_relation.specs.Standing.{Slots as Ports, item_by, item_in}
use Rattle.fm_gen_relation.specs.Operands.{MeanBack, IsBack, first_of, holds_words, word_number, code_back}
use Rattle.fm_gen_relation.specs.Formals.{ports_of}
use Rattle.fm_gen_relation.proofs.FrameWords.{item_read}
use Rattle.fm_gen_relation.proofs.PortWords.{first_there}
use Rattle.fm_gen_relation.proofs.Held.{held_alike}
use Rattle.fm_gen_relation.proofs.Spans.{spliced_length, writes_span}
use Rattle.fm_gen_relation.proofs.Passing.{variable_within}
use Rattle.fm_gen_relation.proofs.Giving.{holds_there}
use Rattle.fm_proc_language.specs.Slots.{port_in}
use Rattle.fm_proc_language.specs.Frames.{Held, exchanged, Joined, port_settled, port_given, ports_given, one_given, all_given}
use Rattle.fm_proc_simulation.specs.SlotWords.{HeldStands, GoesTo, IsHeld, AreOnce}
use Rattle.fm_proc_simulation.specs.Joining.{JoinsAlike}
use Rattle.fm_proc_simulation.proofs.Exchange.{exchange_alike, goes_on, goes_nowhere}
use Rattle.fm_proc_simulation.proofs.Slots.{names_same}
use Rattle.fm_proc_simulation.proofs.Stores.{ports_spliced}

-- words are written into a variable of them
pub words_go : (u : ProgramUnit) → IsSoundUnit u → (others : List ℤ) (h : Held) (xs : List Item) → length h.words ≡ u.names.words → HeldStands u.names.variables others h xs
    → (i k : ℕ) (v : Variable) → slice_get u.names.variables i ≡ Some v → is_word v.kind ≡ true → (ns : List ℤ) → k + length ns ≤ v.words
    → GoesTo u.names.variables others h (record { words = spliced h.words (v.first + k) ns; slots = h.slots }) (written_from xs i k ns)
words_go u sound others h xs sized stands i k v there word ns fits =
    let vs = u.names.variables in
    let within : v.first + v.words ≤ length h.words = omega (arith, sized, variable_within u i v sound there) in
    let kept = sym (ap live (ports_spliced vs i v sound.laid there word h.words k ns fits within)) in
    record {
      stands = record {
        values = ap (λ l. written_from l i k ns) stands.values ∙ writes_span (port_in h.slots) vs i v sound.laid there h.words k ns word fits within;
        slots = stands.slots;
        held = subst (λ l. AllIn (IsHeld h.slots) (l ++ others)) kept stands.held;
        once = subst (λ l. AreOnce (l ++ others)) kept stands.once;
      };
      same = names_same others h.slots;
      count = spliced_length h.words (v.first + k) ns (omega (arith, fits, within));
    }

-- ---- what one formal gives back, by its kind

back_by_words : (slots : Ports) (r : Returned) (b : MeanBack) (q : Kind) (zs : List ℤ) → is_word q ≡ true
    → one_back r b (item_by slots q zs) ≡ record { mine = written r.mine b.place (take b.place.count zs); theirs = r.theirs; drops = r.drops }
back_by_words slots r b kind.Integer zs e = refl
back_by_words slots r b kind.Logical zs e = refl
back_by_words slots r b (kind.In t) zs e = absurd (cc)
back_by_words slots r b (kind.Out t) zs e = absurd (cc)

back_by_ports : (slots : Ports) (r : Returned) (b : MeanBack) (q : Kind) (zs : List ℤ) → is_word q ≡ false
    → one_back r b (item_by slots q zs) ≡ ports_back r b.formal 0 b.place.variable b.place.first b.place.count
back_by_ports slots r b kind.Integer zs e = absurd (cc)
back_by_ports slots r b kind.Logical zs e = absurd (cc)
back_by_ports slots r b (kind.In t) zs e = refl
back_by_ports slots r b (kind.Out t) zs e = refl

module _
    (mine theirs : ProgramUnit) (sound : IsSoundUnit mine) (callee_sound : IsSoundUnit theirs) (others1 others2 : List ℤ) (h k : Held)
    (sized : length h.words ≡ mine.names.words) (callee_sized : length k.words ≡ theirs.names.words) where
  abbrev mv : List Variable
  mv = mine.names.variables

  abbrev tv : List Variable
  tv = theirs.names.variables

  abbrev Joins : Joined → Returned → Type 0
  Joins = JoinsAlike mv tv others1 others2 h k

  abbrev code : MeanBack → Back
  code = code_back mv tv

  -- Ports.

  module _ (i f : ℕ) (to from : Variable) (to_at : slice_get mv i ≡ Some to) (from_at : slice_get tv f ≡ Some from) (to_port : is_word to.kind ≡ false) (from_port : is_word from.kind ≡ false) where
    settles : (j : Joined) (r : Returned) (c : ℕ) → Joins j r → c < to.words → (t : Held) (ys : List Item) → GoesTo tv others2 k t ys → (o : Option PortValue)
        → Joins (port_settled j (to.first + c) t o) (settled r i c ys o)
    settles j r c joins less t ys goes None = joins
    settles j r c joins less t ys goes (Some x) =
        let put = exchange_alike mine sound others1 j.mine r.mine (joins.mine.count ∙ sized) joins.mine.stands i c to to_at to_port less (Some x) in
        record {
          mine = goes_on mv others1 h j.mine (exchanged j.mine (to.first + c) (Some x)).0 r.mine (exchange r.mine i c (Some x)).0 joins.mine put.0;
          theirs = goes;
          drops = λ l. joins.drops l ++ option_to_list (put.1 l);
        }

    port_joins : (j : Joined) (r : Returned) (a c : ℕ) → Joins j r → a < from.words → c < to.words → Joins (port_given j (from.first + a) (to.first + c)) (port_back r f a i c)
    port_joins j r a c joins few less =
        let took = exchange_alike theirs callee_sound others2 j.theirs r.theirs (joins.theirs.count ∙ callee_sized) joins.theirs.stands f a from from_at from_port few None in
        let left = (exchanged j.theirs (from.first + a) None).0 in
        let ys = (exchange r.theirs f a None).0 in
        subst (λ o. Joins (port_given j (from.first + a) (to.first + c)) (settled r i c ys o)) took.1
        (settles j r c joins less left ys (goes_on tv others2 k j.theirs left r.theirs ys joins.theirs took.0) (exchanged j.theirs (from.first + a) None).1)

    ports_join : (n : ℕ) (j : Joined) (r : Returned) (a c : ℕ) (p q : ℕ) → p ≡ from.first + a → q ≡ to.first + c → Joins j r → a + n ≤ from.words → c + n ≤ to.words
        → Joins (ports_given j p q n) (ports_back r f a i c n)
    ports_join zero j r a c p q d e joins few fit = joins
    ports_join (suc n) j r a c p q d e joins few fit =
        let one : Joins (port_given j p q) (port_back r f a i c) = subst (λ x. Joins (port_given j x q) (port_back r f a i c)) (sym d) (subst (λ x. Joins (port_given j (from.first + a) x) (port_back r f a i c)) (sym e) (port_joins j r a c joins (omega (arith, few)) (omega (arith, fit)))) in
        ports_join n (port_given j p q) (port_back r f a i c) (suc a) (suc c) (suc p) (suc q) (omega (arith, d)) (omega (arith, e)) one (omega (arith, few)) (omega (arith, fit))

  -- What one formal gives back.

  -- the parent's words with those of a formal at their place
  abbrev given : Joined → MeanBack → List ℤ
  given j b = spliced j.mine.words (word_number mv b.place) (take b.place.count (drop (first_of tv b.formal) j.theirs.words))

  abbrev with_words : Joined → MeanBack → Joined
  with_words j b = record { mine = record { words = given j b; slots = j.mine.slots }; theirs = j.theirs; drops = j.drops }

  word_joins : (b : MeanBack) (j : Joined) (r : Returned) (back : IsBack mv tv b) → Joins j r → is_word back.formal.kind ≡ true
      → Joins (with_words j b) (one_back r b (item_in (port_in j.theirs.slots) j.theirs.words back.formal))
  word_joins b j r back joins word =
      let v : Variable = back.formal in
      let u : Variable = back.place.variable in
      let n : ℕ = b.place.count in
      let i : ℕ = b.place.variable in
      let a : ℕ = b.place.first in
      let zs : List ℤ = take v.words (drop v.first j.theirs.words) in
      let ns : List ℤ = take n (drop v.first j.theirs.words) in
      let short : length ns ≤ n = omega (arith, length-take n (drop v.first j.theirs.words)) in
      let whole : ns ≡ take n zs = sym (take-take n v.words (drop v.first j.theirs.words) (omega (arith, back.words))) in
      let goes : GoesTo mv others1 j.mine (record { words = spliced j.mine.words (u.first + a) ns; slots = j.mine.slots }) (written_from r.mine i a ns) = words_go mine sound others1 j.mine r.mine (joins.mine.count ∙ sized) joins.mine.stands i a u back.place.there (back.place.kind ∙ word) ns (omega (arith, short, back.place.within)) in
      let at : u.first ≡ first_of mv i = sym (first_there mv i u back.place.there) in
      let from : v.first ≡ first_of tv b.formal = sym (first_there tv b.formal v back.at) in
      let after : List ℤ → Held = λ l. record { words = l; slots = j.mine.slots } in
      let same : spliced j.mine.words (u.first + a) ns ≡ given j b = λ x. spliced j.mine.words (at x + a) (take n (drop (from x) j.theirs.words)) in
      subst (Joins (with_words j b)) (sym (back_by_words (port_in j.theirs.slots) r b v.kind zs word))
      (record {
        mine = goes_on mv others1 h j.mine (after (given j b)) r.mine (written r.mine b.place (take n zs)) joins.mine
            (subst (λ l. GoesTo mv others1 j.mine (after (given j b)) (written_from r.mine i a l)) whole
            (subst (λ l. GoesTo mv others1 j.mine (after l) (written_from r.mine i a ns)) same goes));
        theirs = joins.theirs;
        drops = joins.drops;
      })

  port_back_joins : (b : MeanBack) (j : Joined) (r : Returned) (back : IsBack mv tv b) → Joins j r → is_word back.formal.kind ≡ false
      → Joins (ports_given j (first_of tv b.formal) (word_number mv b.place) b.place.count) (one_back r b (item_in (port_in j.theirs.slots) j.theirs.words back.formal))
  port_back_joins b j r back joins port =
      let v : Variable = back.formal in
      let u : Variable = back.place.variable in
      subst (Joins (ports_given j (first_of tv b.formal) (word_number mv b.place) b.place.count))
      (sym (back_by_ports (port_in j.theirs.slots) r b v.kind (take v.words (drop v.first j.theirs.words)) port))
      (ports_join b.place.variable b.formal u v back.place.there back.at (back.place.kind ∙ port) port b.place.count j r 0 b.place.first (first_of tv b.formal) (word_number mv b.place)
      (omega (arith, first_there tv b.formal v back.at)) (omega (arith, first_there mv b.place.variable u back.place.there)) joins (omega (arith, back.words)) back.place.within)

  one_joins : (b : MeanBack) (j : Joined) (r : Returned) → IsBack mv tv b → Joins j r → Joins (one_given j (code b)) (one_back r b (items_at r.theirs b.formal))
  one_joins b j r back joins =
      let v : Variable = back.formal in
      let read : items_at r.theirs b.formal ≡ item_in (port_in j.theirs.slots) j.theirs.words v = ap (λ xs. items_at xs b.formal) joins.theirs.stands.values ∙ item_read (port_in j.theirs.slots) j.theirs.words tv b.formal v back.at in
      subst (λ y. Joins (one_given j (code b)) (one_back r b y)) (sym read)
      (go (is_word v.kind) (holds_words tv b.formal) (holds_there tv b.formal v back.at) (word_joins b j r back joins) (port_back_joins b j r back joins))
    where
      go : (w e : Bool) → e ≡ w
          → (w ≡ true → Joins (with_words j b) (one_back r b (item_in (port_in j.theirs.slots) j.theirs.words back.formal)))
          → (w ≡ false → Joins (ports_given j (first_of tv b.formal) (word_number mv b.place) b.place.count) (one_back r b (item_in (port_in j.theirs.slots) j.theirs.words back.formal)))
          → Joins (cond (not e) (ports_given j (first_of tv b.formal) (word_number mv b.place) b.place.count) (with_words j b))
          (one_back r b (item_in (port_in j.theirs.slots) j.theirs.words back.formal))
      go true true same words ports = words refl
      go true false same words ports = absurd (cc)
      go false true same words ports = absurd (cc)
      go false false same words ports = ports refl

  -- What all give back.

  all_join : (bs : List MeanBack) (j : Joined) (r : Returned) → AllIn (IsBack mv tv) bs → Joins j r → Joins (all_given j (map code bs)) (all_back r bs)
  all_join [] j r backs joins = joins
  all_join (b ∷ bs) j r backs joins = all_join bs (one_given j (code b)) (one_back r b (items_at r.theirs b.formal)) backs.1 (one_joins b j r backs.0 joins)

-- ---- the laws

-- a child gives back what it does in the meaning
pub all_given_alike : (mine theirs : ProgramUnit) → IsSoundUnit mine → IsSoundUnit theirs → (others1 others2 : List ℤ) (h k : Held) (xs ys : List Item)
    → length h.words ≡ mine.names.words → length k.words ≡ theirs.names.words
    → HeldStands mine.names.variables others1 h xs → HeldStands theirs.names.variables others2 k ys
    → (bs : List MeanBack) → AllIn (IsBack mine.names.variables theirs.names.variables) bs → (drops : List PortValue)
    → JoinsAlike mine.names.variables theirs.names.variables others1 others2 h k
    (all_given (record { mine = h; theirs = k; drops = drops }) (map (code_back mine.names.variables theirs.names.variables) bs))
    (all_back (record { mine = xs; theirs = ys; drops = drops }) bs)
all_given_alike mine theirs sound callee_sound others1 others2 h k xs ys sized callee_sized stands callee_stands bs backs drops =
    all_join mine theirs sound callee_sound others1 others2 h k sized callee_sized bs
    (record { mine = h; theirs = k; drops = drops }) (record { mine = xs; theirs = ys; drops = drops }) backs
    (record { mine = goes_nowhere mine.names.variables others1 h xs stands; theirs = goes_nowhere theirs.names.variables others2 k ys callee_stands; drops = refl })

-- and what is left of it is let go
pub rest_alike : (theirs : ProgramUnit) (others : List ℤ) (k : Held) (ys : List Item) → HeldStands theirs.names.variables others k ys
    → map (port_in k.slots) (ports_in (ports_of theirs.names.variables) k.words) ≡ message_ports ys
rest_alike theirs others k ys stands = held_alike (port_in k.slots) theirs.names.variables k.words ∙ ap message_ports (sym stands.values)
