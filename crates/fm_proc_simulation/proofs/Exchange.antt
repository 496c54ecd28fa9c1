-- The law of exchanging what stands at a port word of a frame, with ports in slots.
use Rattle.std.proofs.Common.{◌≡◌, ℕ, zero, suc, ◌+◌, ◌<◌, ◌≤◌, ℤ, pos, Bool, true, false, not, cond, Option, Some, None, option_to_list, List, [], ◌∷◌, ◌++◌, length, map, take, drop, set, get_or, slice_get, flat_map, refl, sym, ap, ◌∙◌, subst, arith, append_assoc}
use Rattle.std.specs.Ordering.{int_eq}
use Rattle.std.proofs.lemmas.List.{length-set, length-take, length-drop, set-set, set-get_or, drop-set-lt, drop-set-add, take-set-le}
use Rattle.std.proofs.lemmas.List.Elements.{filter-append}
use Rattle.fm_base.specs.declared.port.PortValue.{PortValue}
use Rattle.fm_base.specs.Channels.{Item, Words, Ports}
use Rattle.fm_net.specs.Typed.{AllIn}
use Rattle.fm_tree.specs.declared.port_type.Kind.{Kind}
use Rattle.fm_tree.specs.declared.port_type.Kind.TheVariants as kind
use Rattle.fm_symbols.specs.declared.names.Variable.{Variable}
use Rattle.fm_mean.specs.Names.{ProgramUnit}
use Rattle.fm_mean.specs.Layout.{AreLaidOut}
use Rattle.fm_mean.specs.Places as places
use Rattle.fm_mean.specs.Places.{exchange, exchange_all, item_exchanged, placed_all}
use Rattle.fm_mean.proofs.JudgedItems as lists
use Rattle.fm_code.specs.declared.code.Span.{Span}
use Rattle.fm_code.specs.Acts as acts
use Rattle.fm_code.specs.Passing.{is_port, live, ports_in}
use Rattle.fm_code.specs.Statements.{word_at}
use Rattle.fm_gen_relation.specs.Sound.{is_word, IsSoundUnit}
use Rattle.fm_gen_relation.specs.Standing as standing
use Rattle.fm_gen_relation.specs.Standing.{port_by, item_by, item_in, values_in}
use Rattle.fm_gen_relation.specs.Operands.{MeanSpan, IsPlace, first_of, word_number}
use Rattle.fm_gen_relation.specs.Formals.{span_of, ports_of}
use Rattle.fm_gen_relation.proofs.Writes.{same_variable, take-set-all, begins_behind}
use Rattle.fm_gen_relation.proofs.PortWords.{first_there, puts, comes_out}
use Rattle.fm_gen_relation.proofs.Passing.{variable_within}
use Rattle.fm_proc_language.specs.Slots as slots
use Rattle.fm_proc_language.specs.Slots.{in_slot, port_in, put, put_any, left, taken}
use Rattle.fm_proc_language.specs.Frames.{Held, exchanged, all_exchanged, all_placed}
use Rattle.fm_proc_simulation.specs.SlotWords.{IsHeld, IsSlots, IsOther, AreOnce, HeldStands, NameTheSame, GoesTo}
use Rattle.fm_proc_simulation.proofs.Slots.{held_port, put_slots, put_held, left_slots, names_on, names_right, names_same, left_all, put_all}

-- Lists.

pub other_out : {X : Type 0} (x : X) (xs : List X) (z : X) (ys : List X) → IsOther x (xs ++ (z ∷ ys)) → (x ≡ z → ⊥) × IsOther x (xs ++ ys)
other_out x [] z ys h = h
other_out x (w ∷ xs) z ys h = let rest = other_out x xs z ys h.1 in (rest.0, (h.0, rest.1))

pub other_in : {X : Type 0} (x : X) (xs : List X) (z : X) (ys : List X) → (x ≡ z → ⊥) → IsOther x (xs ++ ys) → IsOther x (xs ++ (z ∷ ys))
other_in x [] z ys ne h = (ne, h)
other_in x (w ∷ xs) z ys ne h = (h.0, other_in x xs z ys ne h.1)

pub once_out : {X : Type 0} (xs : List X) (z : X) (ys : List X) → AreOnce (xs ++ (z ∷ ys)) → IsOther z (xs ++ ys) × AreOnce (xs ++ ys)
once_out [] z ys h = h
once_out (x ∷ xs) z ys h =
    let one = other_out x xs z ys h.0 in
    let rest = once_out xs z ys h.1 in
    (((λ e. one.0 (sym e)), rest.0), (one.1, rest.1))

pub once_in : {X : Type 0} (xs : List X) (z : X) (ys : List X) → IsOther z (xs ++ ys) → AreOnce (xs ++ ys) → AreOnce (xs ++ (z ∷ ys))
once_in [] z ys other h = (other, h)
once_in (x ∷ xs) z ys other h = (other_in x xs z ys (λ e. other.0 (sym e)) h.0, once_in xs z ys other.1 h.1)

pub all_out : {X : Type 0} (P : X → Type 0) (xs : List X) (z : X) (ys : List X) → AllIn P (xs ++ (z ∷ ys)) → P z × AllIn P (xs ++ ys)
all_out P [] z ys h = h
all_out P (x ∷ xs) z ys h = let rest = all_out P xs z ys h.1 in (rest.0, (h.0, rest.1))

pub all_in : {X : Type 0} (P : X → Type 0) (xs : List X) (z : X) (ys : List X) → P z → AllIn P (xs ++ ys) → AllIn P (xs ++ (z ∷ ys))
all_in P [] z ys p h = (p, h)
all_in P (x ∷ xs) z ys p h = (h.0, all_in P xs z ys p h.1)

-- Words that name slots in use.

-- these words name slots in use, each one once
pub record AreInUse (s : slots.Slots) (zs : List ℤ) : Type 0 where
  pub slots : IsSlots s
  pub held : AllIn (IsHeld s) zs
  pub once : AreOnce zs

-- what came out of a word whose slot was left, and the slots then
pub record IsTaken (s : slots.Slots) (w : ℤ) (zs : List ℤ) (out : Option PortValue × slots.Slots) : Type 0 where
  pub there : out.0 ≡ port_by (port_in s) w
  pub used : AreInUse out.1 zs
  pub same : NameTheSame zs s out.1

takes_by : (b : Bool) (s : slots.Slots) (w : ℤ) (xs ys : List ℤ) → AreInUse s (xs ++ (cond (not b) (w ∷ []) [] ++ ys))
    → ((cond {A = Option PortValue × slots.Slots} (not b) (in_slot s w, left s w) (None, s)).0 ≡ cond b None (Some (port_in s w)))
    × AreInUse (cond {A = Option PortValue × slots.Slots} (not b) (in_slot s w, left s w) (None, s)).1 (xs ++ ys)
    × NameTheSame (xs ++ ys) s (cond {A = Option PortValue × slots.Slots} (not b) (in_slot s w, left s w) (None, s)).1
takes_by true s w xs ys u = (refl, u, names_same (xs ++ ys) s)
takes_by false s w xs ys u =
    let held = all_out (IsHeld s) xs w ys u.held in
    let once = once_out xs w ys u.once in
    let rest = left_all s w (xs ++ ys) held.0 once.0 held.1 in
    ((held_port s w held.0).1, record { slots = left_slots s w u.slots held.0; held = rest.0; once = once.1 }, rest.1)

pub takes : (s : slots.Slots) (w : ℤ) (xs ys : List ℤ) → AreInUse s (xs ++ (live (w ∷ []) ++ ys)) → IsTaken s w (xs ++ ys) (taken s w)
takes s w xs ys u =
    let all = takes_by (int_eq w (pos 0)) s w xs ys u in
    record { there = all.0; used = all.1; same = all.2 }

-- the word of what came to a slot, and the slots then
pub record IsPut (s : slots.Slots) (o : Option PortValue) (xs ys : List ℤ) (new : ℤ × slots.Slots) : Type 0 where
  pub there : port_by (port_in new.1) new.0 ≡ o
  pub used : AreInUse new.1 (xs ++ (live (new.0 ∷ []) ++ ys))
  pub same : NameTheSame (xs ++ ys) s new.1

live_named : (b : Bool) (w : ℤ) (xs : List ℤ) → not b ≡ true → w ∷ xs ≡ cond (not b) (w ∷ []) [] ++ xs
live_named true w xs e = absurd (cc)
live_named false w xs e = refl

port_named : (b : Bool) (x : PortValue) → not b ≡ true → cond b None (Some x) ≡ Some x
port_named true x e = absurd (cc)
port_named false x e = refl

pub puts_any : (s : slots.Slots) (o : Option PortValue) (xs ys : List ℤ) → AreInUse s (xs ++ ys) → IsPut s o xs ys (put_any s o)
puts_any s None xs ys u = record { there = refl; used = u; same = names_same (xs ++ ys) s }
puts_any s (Some x) xs ys u =
    let new = put s x in
    let z = new.0 in
    let here = put_held s x u.slots in
    let rest = put_all s x (xs ++ ys) u.slots u.held in
    let port = (held_port new.1 z here.0).0 in
    record {
      there = port_named (int_eq z (pos 0)) (port_in new.1 z) port ∙ ap Some here.1;
      used = subst (λ zs. AreInUse new.1 (xs ++ zs)) (live_named (int_eq z (pos 0)) z ys port)
          (record { slots = put_slots s x u.slots; held = all_in (IsHeld new.1) xs z ys here.0 rest.0; once = once_in xs z ys rest.2 u.once });
      same = rest.1;
    }

-- The port words of a frame.

pub take-drop-behind : (n f : ℕ) (ws : List ℤ) (k : ℕ) (w : ℤ) → f + n ≤ k → take n (drop f (set ws k w)) ≡ take n (drop f ws)
take-drop-behind n zero ws k w le = take-set-le n ws k w (omega (arith, le))
take-drop-behind n (suc f) [] k w le = refl
take-drop-behind n (suc f) (x ∷ ws) zero w le = absurd (omega (arith, le))
take-drop-behind n (suc f) (x ∷ ws) (suc k) w le = take-drop-behind n f ws k w (omega (arith, le))

abbrev words_if : Bool → List ℤ → List ℤ
words_if word ws = cond word [] ws

-- those of the first variable, and those of the others
first_ports : (word : Bool) (s : Span) (ss : List Span) (ws : List ℤ) → ports_in (cond word ss (s ∷ ss)) ws ≡ words_if word (live (acts.span_of ws s)) ++ ports_in ss ws
first_ports true s ss ws = refl
first_ports false s ss ws = filter-append is_port (acts.span_of ws s) (flat_map (acts.span_of ws) ss)

-- a word that isn't among those of these variables
ports_before : (n : ℕ) (vs : List Variable) (ws : List ℤ) (k : ℕ) (z : ℤ) → AreLaidOut n vs → k < n → ports_in (ports_of vs) (set ws k z) ≡ ports_in (ports_of vs) ws
ports_before n [] ws k z laid less = refl
ports_before n (v ∷ vs) ws k z laid less =
    first_ports (is_word v.kind) (span_of v) (ports_of vs) (set ws k z)
    ∙ ap (λ l. words_if (is_word v.kind) (live (take v.words l)) ++ ports_in (ports_of vs) (set ws k z)) (drop-set-lt v.first ws k z (omega (arith, laid.0, less)))
    ∙ ap (λ l. words_if (is_word v.kind) (live (acts.span_of ws (span_of v))) ++ l) (ports_before (n + v.words) vs ws k z laid.1 (omega (arith, less)))
    ∙ sym (first_ports (is_word v.kind) (span_of v) (ports_of vs) ws)

live_set : (zs : List ℤ) (k : ℕ) (z : ℤ) → k < length zs → live (set zs k z) ≡ live (take k zs) ++ (live (z ∷ []) ++ live (drop (suc k) zs))
live_set [] k z less = absurd (omega (arith, less))
live_set (x ∷ zs) zero z less = filter-append is_port (z ∷ []) zs
live_set (x ∷ zs) (suc k) z less =
    filter-append is_port (x ∷ []) (set zs k z)
    ∙ ap (λ l. live (x ∷ []) ++ l) (live_set zs k z (omega (arith, less)))
    ∙ sym (append_assoc (live (x ∷ [])) (live (take k zs)) (live (z ∷ []) ++ live (drop (suc k) zs)))
    ∙ ap (λ l. l ++ (live (z ∷ []) ++ live (drop (suc k) zs))) (sym (filter-append is_port (x ∷ []) (take k zs)))

-- the port words of a frame are some, the one that may be changed, and some others
pub record AreSplit (vs : List Variable) (ws : List ℤ) (k : ℕ) : Type 0 where
  pub before : List ℤ
  pub behind : List ℤ
  pub with_word : (z : ℤ) → ports_in (ports_of vs) (set ws k z) ≡ before ++ (live (z ∷ []) ++ behind)

chosen : (b : Bool) (xs : List ℤ) → b ≡ false → words_if b xs ≡ xs
chosen true xs e = absurd (cc)
chosen false xs e = refl

-- the word is one of the first variable
split_first : (n : ℕ) (v : Variable) (vs : List Variable) (ws : List ℤ) (k : ℕ) → AreLaidOut n (v ∷ vs) → is_word v.kind ≡ false → k < v.words → v.first + k < length ws → AreSplit (v ∷ vs) ws (v.first + k)
split_first n v vs ws k laid q less there =
    let zs = take v.words (drop v.first ws) in
    let count : k < length zs = omega (arith, less, there, length-take v.words (drop v.first ws), length-drop v.first ws) in
    let rest = ports_in (ports_of vs) ws in
    record {
      before = live (take k zs);
      behind = live (drop (suc k) zs) ++ rest;
      with_word = λ z.
          first_ports (is_word v.kind) (span_of v) (ports_of vs) (set ws (v.first + k) z)
          ∙ ap (λ l. l ++ ports_in (ports_of vs) (set ws (v.first + k) z)) (chosen (is_word v.kind) (live (acts.span_of (set ws (v.first + k) z) (span_of v))) q)
          ∙ ap (λ l. live (acts.span_of (set ws (v.first + k) z) (span_of v)) ++ l) (ports_before (n + v.words) vs ws (v.first + k) z laid.1 (omega (arith, laid.0, less)))
          ∙ ap (λ l. live (take v.words l) ++ rest) (drop-set-add v.first ws k z)
          ∙ ap (λ l. live l ++ rest) (take-set-all v.words (drop v.first ws) k z)
          ∙ ap (λ l. l ++ rest) (live_set zs k z count)
          ∙ append_assoc (live (take k zs)) (live (z ∷ []) ++ live (drop (suc k) zs)) rest
          ∙ ap (λ l. live (take k zs) ++ l) (append_assoc (live (z ∷ [])) (live (drop (suc k) zs)) rest);
    }

-- it is one of the others
split_later : (u : Variable) (vs : List Variable) (ws : List ℤ) (k : ℕ) → u.first + u.words ≤ k → AreSplit vs ws k → AreSplit (u ∷ vs) ws k
split_later u vs ws k later split =
    let mine = words_if (is_word u.kind) (live (acts.span_of ws (span_of u))) in
    record {
      before = mine ++ split.before;
      behind = split.behind;
      with_word = λ z.
          first_ports (is_word u.kind) (span_of u) (ports_of vs) (set ws k z)
          ∙ ap (λ l. words_if (is_word u.kind) (live l) ++ ports_in (ports_of vs) (set ws k z)) (take-drop-behind u.words u.first ws k z later)
          ∙ ap (λ l. mine ++ l) (split.with_word z)
          ∙ sym (append_assoc mine split.before (live (z ∷ []) ++ split.behind));
    }

pub splits : (n : ℕ) (vs : List Variable) (ws : List ℤ) (i k : ℕ) (v : Variable) → AreLaidOut n vs → slice_get vs i ≡ Some v → is_word v.kind ≡ false → k < v.words → v.first + k < length ws → AreSplit vs ws (v.first + k)
splits n [] ws i k v laid e q less there = absurd (cc)
splits n (u ∷ vs) ws zero k v laid e q less there =
    subst (λ (x : Variable). AreLaidOut n (x ∷ vs) → AreSplit (x ∷ vs) ws (v.first + k)) (sym (same_variable u v e)) (λ l. split_first n v vs ws k l q less there) laid
splits n (u ∷ vs) ws (suc i) k v laid e q less there =
    let later = begins_behind (port_in slots.no_slots) (n + u.words) vs i v laid.1 e in
    split_later u vs ws (v.first + k) (omega (arith, laid.0, later)) (splits (n + u.words) vs ws i k v laid.1 e q less there)

-- Values.

map_same : (f g : standing.Slots) (zs : List ℤ) → AllIn (λ z. g z ≡ f z) (live zs) → map (port_by g) zs ≡ map (port_by f) zs
map_same f g [] all = refl
map_same f g (z ∷ zs) all = go (int_eq z (pos 0)) (map_same f g zs) all
  where
    go : (b : Bool) → (AllIn (λ z. g z ≡ f z) (live zs) → map (port_by g) zs ≡ map (port_by f) zs) → AllIn (λ z. g z ≡ f z) (cond (not b) (z ∷ live zs) (live zs))
        → cond b None (Some (g z)) ∷ map (port_by g) zs ≡ cond b None (Some (f z)) ∷ map (port_by f) zs
    go true rest h = ap (λ l. None ∷ l) (rest h)
    go false rest h = ap (λ x. Some x ∷ map (port_by g) zs) h.0 ∙ ap (λ l. Some (f z) ∷ l) (rest h.1)

item_same : (f g : standing.Slots) (q : Kind) (zs : List ℤ) → AllIn (λ z. g z ≡ f z) (words_if (is_word q) (live zs)) → item_by g q zs ≡ item_by f q zs
item_same f g kind.Integer zs all = refl
item_same f g kind.Logical zs all = refl
item_same f g (kind.In t) zs all = ap Ports (map_same f g zs all)
item_same f g (kind.Out t) zs all = ap Ports (map_same f g zs all)

-- words stand for the same values where their ports are the same
pub values_same : (f g : standing.Slots) (vs : List Variable) (ws : List ℤ) → AllIn (λ z. g z ≡ f z) (ports_in (ports_of vs) ws) → values_in g vs ws ≡ values_in f vs ws
values_same f g [] ws all = refl
values_same f g (v ∷ vs) ws all =
    let mine = words_if (is_word v.kind) (live (acts.span_of ws (span_of v))) in
    let both = subst (AllIn (λ z. g z ≡ f z)) (first_ports (is_word v.kind) (span_of v) (ports_of vs) ws) all in
    ap (λ x. x ∷ values_in g vs ws) (item_same f g v.kind (take v.words (drop v.first ws)) (lists.all_left (λ z. g z ≡ f z) mine (ports_in (ports_of vs) ws) both))
    ∙ ap (λ l. item_in f ws v ∷ l) (values_same f g vs ws (lists.all_right (λ z. g z ≡ f z) mine (ports_in (ports_of vs) ws) both))

-- what is exchanged twice is what is exchanged at last
elements_twice : (qs : List (Option PortValue)) (k : ℕ) (p o : Option PortValue) → (places.exchanged (places.exchanged qs k p).0 k o).0 ≡ (places.exchanged qs k o).0
elements_twice [] k p o = refl
elements_twice (q ∷ qs) zero p o = refl
elements_twice (q ∷ qs) (suc k) p o = ap (λ l. q ∷ l) (elements_twice qs k p o)

item_twice : (x : Item) (k : ℕ) (p o : Option PortValue) → (item_exchanged (item_exchanged x k p).0 k o).0 ≡ (item_exchanged x k o).0
item_twice (Words ws) k p o = refl
item_twice (Ports ps) k p o = ap Ports (elements_twice ps k p o)

exchange_twice : (xs : List Item) (i k : ℕ) (p o : Option PortValue) → (exchange (exchange xs i k p).0 i k o).0 ≡ (exchange xs i k o).0
exchange_twice [] i k p o = refl
exchange_twice (x ∷ xs) zero k p o = ap (λ y. y ∷ xs) (item_twice x k p o)
exchange_twice (x ∷ xs) (suc i) k p o = ap (λ l. x ∷ l) (exchange_twice xs i k p o)

-- One exchange.

module _ (vs : List Variable) (others : List ℤ) (h : Held) (xs : List Item) (laid : AreLaidOut 0 vs) (stand : HeldStands vs others h xs) (i k : ℕ) (v : Variable) (there : slice_get vs i ≡ Some v) (port : is_word v.kind ≡ false) (within : k < v.words) (inside : v.first + k < length h.words) where
  abbrev at : ℕ
  at = v.first + k

  abbrev word : ℤ
  word = word_at h.words at

  place : first_of vs i + k ≡ at
  place = ap (λ n. n + k) (first_there vs i v there)

  puts_at : (f : standing.Slots) (ws : List ℤ) (z : ℤ) → values_in f vs (set ws at z) ≡ (exchange (values_in f vs ws) i k (port_by f z)).0
  puts_at f ws z = ap (λ n. values_in f vs (set ws n z)) (sym place) ∙ puts f 0 vs ws i k z v laid there port within

  gives_at : (o : Option PortValue) → (exchange xs i k o).1 ≡ port_by (port_in h.slots) word
  gives_at o =
      ap (λ ys. (exchange ys i k o).1) stand.values
      ∙ comes_out (port_in h.slots) vs h.words i k o v there port within (subst (λ n. n < length h.words) (sym place) inside)
      ∙ ap (λ n. port_by (port_in h.slots) (get_or h.words n (pos 0))) place

  parts : AreSplit vs h.words at
  parts = splits 0 vs h.words i k v laid there port within inside

  -- the port words that stay, and those of others
  abbrev last : List ℤ
  last = parts.behind ++ others

  all_words : (z : ℤ) → ports_in (ports_of vs) (set h.words at z) ++ others ≡ parts.before ++ (live (z ∷ []) ++ last)
  all_words z =
      ap (λ l. l ++ others) (parts.with_word z)
      ∙ append_assoc parts.before (live (z ∷ []) ++ parts.behind) others
      ∙ ap (λ l. parts.before ++ l) (append_assoc (live (z ∷ [])) parts.behind others)

  first_words : ports_in (ports_of vs) h.words ++ others ≡ parts.before ++ (live (word ∷ []) ++ last)
  first_words = ap (λ ws. ports_in (ports_of vs) ws ++ others) (sym (set-get_or h.words at (pos 0))) ∙ all_words word

  in_use : AreInUse h.slots (parts.before ++ (live (word ∷ []) ++ last))
  in_use = record { slots = stand.slots; held = subst (AllIn (IsHeld h.slots)) first_words stand.held; once = subst AreOnce first_words stand.once }

  out : IsTaken h.slots word (parts.before ++ last) (taken h.slots word)
  out = takes h.slots word parts.before last in_use

  -- one comes to the word
  module _ (o : Option PortValue) where
    abbrev new : ℤ × slots.Slots
    new = put_any (taken h.slots word).1 o

    came : IsPut (taken h.slots word).1 o parts.before last new
    came = puts_any (taken h.slots word).1 o parts.before last out.used

    names : NameTheSame (parts.before ++ last) h.slots new.1
    names = names_on (parts.before ++ last) h.slots (taken h.slots word).1 new.1 out.same came.same

    -- the words that stay
    names_mine : NameTheSame (ports_in (ports_of vs) (set h.words at (pos 0))) h.slots new.1
    names_mine =
        subst (AllIn (λ z. port_in new.1 z ≡ port_in h.slots z)) (sym (parts.with_word (pos 0)))
        (lists.all_left (λ z. port_in new.1 z ≡ port_in h.slots z) (parts.before ++ parts.behind) others
        (subst (AllIn (λ z. port_in new.1 z ≡ port_in h.slots z)) (sym (append_assoc parts.before parts.behind others)) names))

    names_others : NameTheSame others h.slots new.1
    names_others = names_right parts.behind others h.slots new.1 (names_right parts.before last h.slots new.1 names)

    values : (exchange xs i k o).0 ≡ values_in (port_in new.1) vs (set h.words at new.0)
    values =
        let f = port_in h.slots in
        let g = port_in new.1 in
        ap (λ ys. (exchange ys i k o).0) stand.values
        ∙ sym (exchange_twice (values_in f vs h.words) i k None o)
        ∙ ap (λ ys. (exchange ys i k o).0) (sym (puts_at f h.words (pos 0)))
        ∙ ap (λ ys. (exchange ys i k o).0) (sym (values_same f g vs (set h.words at (pos 0)) names_mine))
        ∙ ap (λ p. (exchange (values_in g vs (set h.words at (pos 0))) i k p).0) (sym came.there)
        ∙ sym (puts_at g (set h.words at (pos 0)) new.0)
        ∙ ap (values_in g vs) (set-set h.words at (pos 0) new.0)

    exchanged_stands : GoesTo vs others h (exchanged h at o).0 (exchange xs i k o).0
    exchanged_stands = record {
      stands = record {
        values = values;
        slots = came.used.slots;
        held = subst (AllIn (IsHeld new.1)) (sym (all_words new.0)) came.used.held;
        once = subst AreOnce (sym (all_words new.0)) came.used.once;
      };
      same = names_others;
      count = length-set h.words at new.0;
    }

    exchanged_gives : (exchanged h at o).1 ≡ (exchange xs i k o).1
    exchanged_gives = out.there ∙ sym (gives_at o)

pub exchange_alike : (u : ProgramUnit) → IsSoundUnit u → (others : List ℤ) (h : Held) (xs : List Item) → length h.words ≡ u.names.words → HeldStands u.names.variables others h xs
    → (i k : ℕ) (v : Variable) → slice_get u.names.variables i ≡ Some v → is_word v.kind ≡ false → k < v.words → (o : Option PortValue)
    → GoesTo u.names.variables others h (exchanged h (v.first + k) o).0 (exchange xs i k o).0 × ((exchanged h (v.first + k) o).1 ≡ (exchange xs i k o).1)
exchange_alike u sound others h xs full stand i k v there port within o =
    let inside : v.first + k < length h.words = omega (arith, full, within, variable_within u i v sound there) in (
      exchanged_stands u.names.variables others h xs sound.laid stand i k v there port within inside o,
      exchanged_gives u.names.variables others h xs sound.laid stand i k v there port within inside o,
    )

-- Exchanges one after the other.

pub goes_on : (vs : List Variable) (others : List ℤ) (h m l : Held) (ys zs : List Item) → GoesTo vs others h m ys → GoesTo vs others m l zs → GoesTo vs others h l zs
goes_on vs others h m l ys zs a b = record { stands = b.stands; same = names_on others h.slots m.slots l.slots a.same b.same; count = b.count ∙ a.count }

pub goes_nowhere : (vs : List Variable) (others : List ℤ) (h : Held) (xs : List Item) → HeldStands vs others h xs → GoesTo vs others h h xs
goes_nowhere vs others h xs stand = record { stands = stand; same = names_same others h.slots; count = refl }

live_more : (p : Option PortValue) (ps : List (Option PortValue)) → option_to_list p ++ places.live ps ≡ places.live (p ∷ ps)
live_more None ps = refl
live_more (Some x) ps = refl

pub all_exchange_alike : (u : ProgramUnit) → IsSoundUnit u → (others : List ℤ) (h : Held) (xs : List Item) → length h.words ≡ u.names.words → HeldStands u.names.variables others h xs
    → (i : ℕ) (v : Variable) → slice_get u.names.variables i ≡ Some v → is_word v.kind ≡ false → (k : ℕ) (ps : List (Option PortValue)) → k + length ps ≤ v.words
    → GoesTo u.names.variables others h (all_exchanged h (v.first + k) ps).0 (exchange_all xs i k ps).0 × ((all_exchanged h (v.first + k) ps).1 ≡ places.live (exchange_all xs i k ps).1)
all_exchange_alike u sound others h xs full stand i v there port k [] le = (goes_nowhere u.names.variables others h xs stand, refl)
all_exchange_alike u sound others h xs full stand i v there port k (p ∷ ps) le =
    let vs = u.names.variables in
    let one = exchange_alike u sound others h xs full stand i k v there port (omega (arith, le)) p in
    let m = (exchanged h (v.first + k) p).0 in
    let next : suc (v.first + k) ≡ v.first + suc k = omega arith in
    let rest = all_exchange_alike u sound others m (exchange xs i k p).0 (one.0.count ∙ full) one.0.stands i v there port (suc k) ps (omega (arith, le)) in (
      goes_on vs others h m (all_exchanged m (suc (v.first + k)) ps).0 (exchange xs i k p).0 (exchange_all (exchange xs i k p).0 i (suc k) ps).0 one.0
          (subst (λ n. GoesTo vs others m (all_exchanged m n ps).0 (exchange_all (exchange xs i k p).0 i (suc k) ps).0) (sym next) rest.0),
      ap (λ q. option_to_list q ++ (all_exchanged m (suc (v.first + k)) ps).1) one.1
          ∙ ap (λ n. option_to_list (exchange xs i k p).1 ++ (all_exchanged m n ps).1) next
          ∙ ap (λ l. option_to_list (exchange xs i k p).1 ++ l) rest.1
          ∙ live_more (exchange xs i k p).1 (exchange_all (exchange xs i k p).0 i (suc k) ps).1,
    )

-- at a place, by the number of its word
pub place_exchanged : (u : ProgramUnit) → IsSoundUnit u → (others : List ℤ) (h : Held) (xs : List Item) → length h.words ≡ u.names.words → HeldStands u.names.variables others h xs
    → (q : MeanSpan) → IsPlace u.names.variables false q → 1 ≤ q.count → (o : Option PortValue)
    → GoesTo u.names.variables others h (exchanged h (word_number u.names.variables q) o).0 (places.put_port xs q o).0 × ((exchanged h (word_number u.names.variables q) o).1 ≡ (places.put_port xs q o).1)
place_exchanged u sound others h xs full stand q at one o =
    let vs = u.names.variables in
    let v = at.variable in
    subst (λ n. GoesTo vs others h (exchanged h n o).0 (places.put_port xs q o).0 × ((exchanged h n o).1 ≡ (places.put_port xs q o).1))
    (ap (λ n. n + q.first) (sym (first_there vs q.variable v at.there)))
    (exchange_alike u sound others h xs full stand q.variable q.first v at.there at.kind (omega (arith, at.within, one)) o)

pub place_alike : (u : ProgramUnit) → IsSoundUnit u → (others : List ℤ) (h : Held) (xs : List Item) → length h.words ≡ u.names.words → HeldStands u.names.variables others h xs
    → (qs : List MeanSpan) (zs : List PortValue) → AllIn (λ (q : MeanSpan). IsPlace u.names.variables false q × (1 ≤ q.count)) qs
    → GoesTo u.names.variables others h (all_placed h (map (word_number u.names.variables) qs) zs).0 (placed_all xs qs zs).0 × ((all_placed h (map (word_number u.names.variables) qs) zs).1 ≡ (placed_all xs qs zs).1)
place_alike u sound others h xs full stand qs [] whole = (goes_nowhere u.names.variables others h xs stand, refl)
place_alike u sound others h xs full stand [] (z ∷ zs) whole = (goes_nowhere u.names.variables others h xs stand, refl)
place_alike u sound others h xs full stand (q ∷ qs) (z ∷ zs) whole =
    let vs = u.names.variables in
    let one = place_exchanged u sound others h xs full stand q whole.0.0 whole.0.1 (Some z) in
    let m = (exchanged h (word_number vs q) (Some z)).0 in
    let ys = (places.put_port xs q (Some z)).0 in
    let ks = map (word_number vs) qs in
    let rest = place_alike u sound others m ys (one.0.count ∙ full) one.0.stands qs zs whole.1 in (
      goes_on vs others h m (all_placed m ks zs).0 ys (placed_all ys qs zs).0 one.0 rest.0,
      ap (λ p. option_to_list p ++ (all_placed m ks zs).1) one.1 ∙ ap (λ l. option_to_list (places.put_port xs q (Some z)).1 ++ l) rest.1,
    )
