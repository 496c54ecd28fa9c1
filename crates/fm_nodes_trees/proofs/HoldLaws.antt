-- Whether a port is among others, one after the other.
use Rattle.std.proofs.Common.{◌≡◌, ◌+◌, ◌<◌, ◌≤◌, ℕ, zero, suc, Bool, true, false, ◌||◌, cond, Option, Some, None, option_map, List, [], ◌∷◌, ◌++◌, length, map, take, drop, get_or, reverse, refl, sym, ap, ◌∙◌, arith, add-one, append-nil}
use Rattle.std.specs.Prelude.{nat_lt, option_to_list}
use Rattle.std.proofs.Math.Seq.{drop-cons}
use Rattle.std.proofs.lemmas.Grind.{flat_map-append}
use Rattle.std.proofs.lemmas.Bool.Decides.{nat_tests}
use Rattle.std.proofs.lemmas.List.{drop_all}
use mathlib.Core.List.{reverse-cons}
use Rattle.fm_base.specs.declared.port.PortValue.{PortValue}
use Rattle.fm_base.specs.Channels.{item_ports, message_ports}
use Rattle.fm_net.specs.Owned.{count, one, same_port}
use Rattle.fm_net.proofs.Counts.{count-append, count-cons, count-nil}
use Rattle.fm_tree.specs.declared.port_type.Kind.{Kind}
use Rattle.fm_tree.specs.declared.port_type.Kind.TheVariants as kinds
use Rattle.fm_symbols.specs.declared.names.Variable.{Variable}
use Rattle.fm_rules.specs.declared.program.Program.{Program}
use Rattle.fm_mean.specs.Fits.{variables_of}
use Rattle.fm_mean.specs.Places.{live}
use Rattle.fm_mean.specs.Process as mean
use Rattle.fm_mean.specs.Process.{frame_ports, frames_ports, held}
use Rattle.fm_plain_frame.specs.declared.frame.Frame.{Frame}
use Rattle.fm_plain_frame.specs.declared.process.PlainProc.{PlainProc}
use Rattle.fm_plain_frame.specs.declared.word.Word.{Word}
use Rattle.fm_plain_frame.specs.Frames.{frame_of, proc_of}
use Rattle.fm_plain_frame.specs.Memory.{holds_ports, item_by, item_in, port_in, values_of}

positive : (n : ℕ) → 0 < n → nat_lt 0 n ≡ true
positive n some = grind (arith, nat_tests)

over_sum : (a b : ℕ) → nat_lt 0 (a + b) ≡ (nat_lt 0 a || nat_lt 0 b)
over_sum zero b = let same : 0 + b ≡ b = omega arith in ap (nat_lt 0) same
over_sum (suc n) b = positive (suc n + b) (omega arith) ∙ ap (λ r. r || nat_lt 0 b) (sym (positive (suc n) (omega arith)))

-- whether it is among them
abbrev pub among : PortValue → List PortValue → Bool
among z xs = nat_lt 0 (count z xs)

pub among_two : (z : PortValue) (xs ys : List PortValue) → among z (xs ++ ys) ≡ (among z xs || among z ys)
among_two z xs ys = ap (nat_lt 0) (count-append z xs ys) ∙ over_sum (count z xs) (count z ys)

-- it is among the first of two lists, or else where it is among the second
pub among_first : (z : PortValue) (xs ys : List PortValue) → among z xs ≡ true → among z (xs ++ ys) ≡ true
among_first z xs ys has = among_two z xs ys ∙ ap (λ b. b || among z ys) has

pub among_later : (z : PortValue) (xs ys : List PortValue) → among z xs ≡ false → among z (xs ++ ys) ≡ among z ys
among_later z xs ys has = among_two z xs ys ∙ ap (λ b. b || among z ys) has

pub among_none : (z : PortValue) → among z [] ≡ false
among_none z = ap (nat_lt 0) (count-nil z)

one_over : (z y : PortValue) → nat_lt 0 (one y z) ≡ same_port y z
unfolding one
one_over z y = go (same_port y z)
  where
    go : (b : Bool) → nat_lt 0 (cond b 1 0) ≡ b
    go true = refl
    go false = refl

pub among_one : (z y : PortValue) → among z (y ∷ []) ≡ same_port y z
among_one z y =
    let alone : count z (y ∷ []) ≡ one y z = omega (arith, count-cons z y [], count-nil z) in
    ap (nat_lt 0) alone ∙ one_over z y

-- lists of things that hold ports
module _ {X : Type 0} (own : X → List PortValue) (all : List X → List PortValue) (more : (x : X) (xs : List X) → all (x ∷ xs) ≡ own x ++ all xs) (none : all [] ≡ []) (z : PortValue) (xs : List X) where
  next_is : (i : ℕ) (x : X) → i < length xs → x ≡ get_or xs i x → drop i xs ≡ x ∷ drop (i + 1) xs
  next_is i x low at = drop-cons xs i x low ∙ (λ j. sym at j ∷ drop (sym (add-one i) j) xs)

  split : (i : ℕ) (x : X) → i < length xs → x ≡ get_or xs i x → among z (all (drop i xs)) ≡ (among z (own x) || among z (all (drop (i + 1) xs)))
  split i x low at = ap (λ ys. among z (all ys)) (next_is i x low at) ∙ ap (among z) (more x (drop (i + 1) xs)) ∙ among_two z (own x) (all (drop (i + 1) xs))

  pub has_next : (i : ℕ) (x : X) → i < length xs → x ≡ get_or xs i x → among z (own x) ≡ true → among z (all (drop i xs)) ≡ among z (all xs) → true ≡ among z (all xs)
  has_next i x low at has before = ap (λ b. b || among z (all (drop (i + 1) xs))) (sym has) ∙ sym (split i x low at) ∙ before

  pub has_later : (i : ℕ) (x : X) → i < length xs → x ≡ get_or xs i x → among z (own x) ≡ false → among z (all (drop i xs)) ≡ among z (all xs) → among z (all (drop (i + 1) xs)) ≡ among z (all xs)
  has_later i x low at has before = ap (λ b. b || among z (all (drop (i + 1) xs))) (sym has) ∙ sym (split i x low at) ∙ before

  pub has_none : (i : ℕ) → length xs ≤ i → among z (all (drop i xs)) ≡ among z (all xs) → false ≡ among z (all xs)
  has_none i high before = sym (ap (among z) (ap all (drop_all i xs high) ∙ none) ∙ among_none z) ∙ before

-- words, variables, starts and frames
abbrev pub word_port : Word → List PortValue
word_port w = live (port_in w ∷ [])

pub words_more : (w : Word) (ws : List Word) → live (map port_in (w ∷ ws)) ≡ word_port w ++ live (map port_in ws)
words_more w ws = go (port_in w)
  where
    go : (o : Option PortValue) → live (o ∷ map port_in ws) ≡ live (o ∷ []) ++ live (map port_in ws)
    go None = refl
    go (Some z) = refl

-- whether a word is the port
pub word_among : (z : PortValue) (w : Word) (o : Option PortValue) → o ≡ port_in w → (r : Bool) → (o ≡ None → r ≡ false) → ((y : PortValue) → o ≡ Some y → r ≡ same_port y z) → r ≡ among z (word_port w)
word_among z w None is r none some = none refl ∙ sym (among_none z) ∙ ap (λ o. among z (live (o ∷ []))) is
word_among z w (Some y) is r none some = some y refl ∙ sym (among_one z y) ∙ ap (λ o. among z (live (o ∷ []))) is

-- whether a variable holds the port
pub words_among : (z : PortValue) (m : List Word) (v : Variable) (k : Kind) → v.kind ≡ k → holds_ports k ≡ false → false ≡ among z (item_ports (item_in m v))
words_among z m v k is none = go v.kind (ap holds_ports is ∙ none)
  where
    go : (kind : Kind) → holds_ports kind ≡ false → false ≡ among z (item_ports (item_by kind (take v.words (drop v.first m))))
    go kinds.Integer e = sym (among_none z)
    go kinds.Logical e = sym (among_none z)
    go (kinds.In t) e = absurd (cc e)
    go (kinds.Out t) e = absurd (cc e)

pub ports_among : (z : PortValue) (m : List Word) (v : Variable) (k : Kind) → v.kind ≡ k → holds_ports k ≡ true → (ws : List Word) → ws ≡ take v.words (drop v.first m) → (r : Bool) → r ≡ among z (live (map port_in ws)) → r ≡ among z (item_ports (item_in m v))
ports_among z m v k is some ws are r has = go v.kind (ap holds_ports is ∙ some)
  where
    go : (kind : Kind) → holds_ports kind ≡ true → r ≡ among z (item_ports (item_by kind (take v.words (drop v.first m))))
    go kinds.Integer e = absurd (cc e)
    go kinds.Logical e = absurd (cc e)
    go (kinds.In t) e = has ∙ ap (λ (us : List Word). among z (live (map port_in us))) are
    go (kinds.Out t) e = has ∙ ap (λ (us : List Word). among z (live (map port_in us))) are

frames_among : (z : PortValue) (fs : List mean.Frame) → count z (frames_ports (reverse fs)) ≡ count z (frames_ports fs)
frames_among z [] = refl
frames_among z (f ∷ fs) =
    let turned = ap (λ gs. count z (frames_ports gs)) (reverse-cons f fs) ∙ ap (count z) (flat_map-append frame_ports (reverse fs) (f ∷ [])) in
    omega (arith, turned, count-append z (frames_ports (reverse fs)) (frames_ports (f ∷ [])), ap (count z) (append-nil (frame_ports f)), frames_among z fs, count-append z (frame_ports f) (frames_ports fs))

-- the frames of a process, the innermost one and the others
pub process_among : (z : PortValue) (p : Program) (x : PlainProc) (one others : Bool) → one ≡ among z (frames_ports (option_to_list (option_map (frame_of p) x.top))) → others ≡ among z (frames_ports (map (frame_of p) x.below.items))
    → (one || others) ≡ among z (held (proc_of p x))
process_among z p x one others here there =
    let tops = option_to_list (option_map (frame_of p) x.top) in
    let below = map (frame_of p) x.below.items in
    ap (λ b. b || others) here
    ∙ ap (λ b. among z (frames_ports tops) || b) (there ∙ ap (nat_lt 0) (sym (frames_among z below)))
    ∙ sym (among_two z (frames_ports tops) (frames_ports (reverse below)))
    ∙ ap (among z) (sym (flat_map-append frame_ports tops (reverse below)))

-- the values of a frame, as its memory has them
pub values_among : (z : PortValue) (p : Program) (f : Frame) (vs : List Variable) (ws : List Word) → vs ≡ variables_of p f.unit → ws ≡ f.memory.items → (r : Bool) → r ≡ among z (message_ports (values_of vs ws)) → r ≡ among z (message_ports (frame_of p f).values)
values_among z p f vs ws are words r is = is ∙ (λ i. among z (message_ports (values_of (are i) (words i))))
