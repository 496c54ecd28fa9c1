-- The marks of a body among those of its unit: what stands before them opens and closes nothing, and the last one is END.
use Rattle.std.proofs.Common.{◌≡◌, ℕ, zero, suc, ◌+◌, ◌<◌, ◌≤◌, Bool, true, false, cond, Option, Some, None, List, [], ◌∷◌, ◌++◌, map, length, reverse, take, drop, slice_get, refl, sym, ap, ◌∙◌, subst, arith}
use Rattle.std.specs.Prelude.{if◌then◌else◌, nat_eq}
use Rattle.std.proofs.lemmas.Bool.Decides.{nat_tests}
use Rattle.std.proofs.lemmas.List.{append-nil, length-reverse, length-take-le, take-append-drop}
use Rattle.fm_tree.specs.declared.form.Form.{Form}
use Rattle.fm_tree.specs.declared.form.Form.TheVariants as form
use Rattle.fm_tree.specs.declared.form.Bracket.{Bracket}
use Rattle.fm_tree.specs.declared.form.Bracket.TheVariants.{Opens, Closes, Parts, Stays}
use Rattle.fm_tree.specs.declared.form.Terminal.TheVariants as terminal
use Rattle.fm_tree.specs.declared.entry_mark.EntryMark.{EntryMark}
use Rattle.fm_tree.specs.declared.entry_mark.Open.{Open}
use Rattle.fm_tree.specs.Structure.{bracket_of, is_executable}
use Rattle.fm_tree.specs.Blocks.{behind, counted, head_of, innermost, open_blocks, part_first, turned}
use Rattle.fm_tree.specs.Layout.{closing, is_closed_by, marks_of, put_end}
use Rattle.fm_tree.specs.Units.{body_of}
use Rattle.fm_tree_blocks.proofs.Counts.{open_blocks-cons}
use Rattle.fm_tree_blocks.proofs.LaidMarks.{IsFinished, IsNoWrap, onto, onto_none, onto_twice, the_block, the_mark}

-- ---- what stands before the body

abbrev pub ArePlain : List EntryMark → Type 0
ArePlain [] = Unit {0}
ArePlain (m ∷ ms) = (is_executable m.form ≡ false) × ArePlain ms

pub record IsSplit (ms : List EntryMark) : Type 0 where
  pub front : List EntryMark
  pub is : ms ≡ front ++ body_of ms
  pub plain : ArePlain front

pub split : (ms : List EntryMark) → IsSplit ms
split [] = record { front = []; is = refl; plain = tt }
split (m ∷ ms) = go (is_executable m.form) refl (split ms)
  where
    go : (b : Bool) → is_executable m.form ≡ b → IsSplit ms → IsSplit (m ∷ ms)
    go true e rest = record { front = []; is = ap (λ (b : Bool). if b then m ∷ ms else body_of ms) (sym e); plain = tt }
    go false e rest = record {
      front = m ∷ rest.front;
      is = ap (λ (xs : List EntryMark). m ∷ xs) rest.is ∙ ap (λ (b : Bool). m ∷ (rest.front ++ (if b then m ∷ ms else body_of ms))) (sym e);
      plain = (e, rest.plain);
    }

plain_stays : (f : Form) → is_executable f ≡ false → bracket_of f ≡ Stays
unfolding bracket_of
plain_stays (form.Heading unit) e = refl
plain_stays form.Processors e = refl
plain_stays form.Declaration e = refl
plain_stays f e = absurd (cc e)

-- the first entry of a body is executable
pub body_begins : (ms : List EntryMark) (m : EntryMark) → slice_get (body_of ms) 0 ≡ Some m → is_executable m.form ≡ true
body_begins [] m e = absurd (cc e)
body_begins (x ∷ ms) m e = go (is_executable x.form) refl e (λ h. body_begins ms m h)
  where
    go : (b : Bool) → is_executable x.form ≡ b → slice_get (if b then x ∷ ms else body_of ms) 0 ≡ Some m → (slice_get (body_of ms) 0 ≡ Some m → is_executable m.form ≡ true) → is_executable m.form ≡ true
    go true is e rest = ap (λ (y : EntryMark). is_executable y.form) (sym (the_mark x m e)) ∙ is
    go false is e rest = rest e

-- ---- the open blocks are the same

abbrev form_in : Open → Form
form_in o = o.form

abbrev forms : List Open → List Form
forms os = map form_in os

forms_parted : (at : ℕ) (f : Form) (os : List Open) → forms (part_first at f os) ≡ forms os
forms_parted at f [] = refl
forms_parted at f (o ∷ os) = refl

counted_alike : (t : Bracket) (n m : ℕ) (f : Form) (outer other : ℕ → List Open) → ((c : ℕ) → forms (outer c) ≡ forms (other c)) → (c : ℕ) → forms (counted t n f outer c) ≡ forms (counted t m f other c)
counted_alike Opens n m f outer other h zero = ap (λ (fs : List Form). f ∷ fs) (h zero)
counted_alike Opens n m f outer other h (suc c) = h c
counted_alike Closes n m f outer other h c = h (suc c)
counted_alike Parts n m f outer other h zero = forms_parted n f (outer zero) ∙ h zero ∙ sym (forms_parted m f (other zero))
counted_alike Parts n m f outer other h (suc c) = h (suc c)
counted_alike Stays n m f outer other h c = h c

abbrev AllStay : List EntryMark → Type 0
AllStay [] = Unit {0}
AllStay (m ∷ ms) = (bracket_of m.form ≡ Stays) × AllStay ms

none_open : (front : List EntryMark) → AllStay front → (c : ℕ) → open_blocks front c ≡ []
none_open [] h c = refl
none_open (m ∷ front) h c = ap (λ (b : Bracket). counted b (length front) m.form (open_blocks front) c) h.0 ∙ none_open front h.1 c

forms_alike : (before front : List EntryMark) → AllStay front → (c : ℕ) → forms (open_blocks (before ++ front) c) ≡ forms (open_blocks before c)
forms_alike [] front h c = ap forms (none_open front h c)
forms_alike (m ∷ before) front h c = counted_alike (bracket_of m.form) (length (before ++ front)) (length before) m.form (open_blocks (before ++ front)) (open_blocks before) (λ d. forms_alike before front h d) c

stay_onto : (xs before : List EntryMark) → ArePlain xs → AllStay before → AllStay (onto xs before)
stay_onto [] before h k = k
stay_onto (x ∷ xs) before h k = stay_onto xs (x ∷ before) h.1 (plain_stays x.form h.0, k)

onto_append : (xs ys before : List EntryMark) → onto (xs ++ ys) before ≡ onto ys (onto xs before)
onto_append [] ys before = refl
onto_append (x ∷ xs) ys before = onto_append xs ys (x ∷ before)

onto_base : (xs a base : List EntryMark) → onto xs (a ++ base) ≡ onto xs a ++ base
onto_base [] a base = refl
onto_base (x ∷ xs) a base = onto_base xs (x ∷ a) base

take_behind : (front ms : List EntryMark) (k n : ℕ) → n ≡ length front + k → take n (front ++ ms) ≡ front ++ take k ms
take_behind [] ms k n e = let q : n ≡ k = omega (arith, e) in ap (λ j. take j ms) q
take_behind (x ∷ front) ms k zero e = absurd (omega (arith, e))
take_behind (x ∷ front) ms k (suc n) e = ap (λ (xs : List EntryMark). x ∷ xs) (take_behind front ms k n (omega (arith, e)))

heads_alike : (os ps : List Open) → forms os ≡ forms ps → (o : Open) → head_of os ≡ Some o → (q : Open) × (head_of ps ≡ Some q) × (q.form ≡ o.form)
heads_alike [] ps e o at = absurd (cc at)
heads_alike (x ∷ os) [] e o at = absurd (cc e)
heads_alike (x ∷ os) (y ∷ ps) e o at = (y, refl, sym (first x.form y.form (forms os) (forms ps) e) ∙ ap form_in (the_block x o at))
  where
    first : (f g : Form) (fs gs : List Form) → f ∷ fs ≡ g ∷ gs → f ≡ g
    first f g fs gs e = cc

-- where the body is a part of these marks, the innermost block is of the same form
pub body_innermost : (front ms : List EntryMark) (k n : ℕ) → ArePlain front → n ≡ length front + k → (o : Open) → innermost (front ++ ms) n ≡ Some o → (q : Open) × (innermost ms k ≡ Some q) × (q.form ≡ o.form)
body_innermost front ms k n plain e o at =
    let same : reverse (take n (front ++ ms)) ≡ onto (take k ms) [] ++ onto front [] =
    ap reverse (take_behind front ms k n e) ∙ sym (onto_none (front ++ take k ms)) ∙ onto_append front (take k ms) [] ∙ onto_base (take k ms) [] (onto front []) in
    let alike : forms (behind (take n (front ++ ms))) ≡ forms (behind (take k ms)) =
    ap (λ (r : List EntryMark). forms (open_blocks r zero)) same ∙ forms_alike (onto (take k ms) []) (onto front []) (stay_onto front [] plain tt) zero ∙ ap (λ (r : List EntryMark). forms (open_blocks r zero)) (onto_none (take k ms)) in
    heads_alike (behind (take n (front ++ ms))) (behind (take k ms)) alike o at

-- ---- where blocks were opened

abbrev marked : List EntryMark → ℕ → Option EntryMark
marked [] n = None
marked (m ∷ before) n = cond (nat_eq n (length before)) (Some m) (marked before n)

abbrev AreThere : List EntryMark → List Open → Type 0
AreThere before [] = Unit {0}
AreThere before (o ∷ os) = (o.at < length before) × ((m : EntryMark) × (marked before o.at ≡ Some m) × (m.form ≡ o.form)) × AreThere before os

below_apart : (a b : ℕ) → a < b → nat_eq a b ≡ false
below_apart a b h = grind (arith, nat_tests, h)

same_place : (a : ℕ) → nat_eq a a ≡ true
same_place a = grind (arith, nat_tests)

there_more : (m : EntryMark) (before : List EntryMark) (os : List Open) → AreThere before os → AreThere (m ∷ before) os
there_more m before [] h = tt
there_more m before (o ∷ os) h = (
  omega (arith, h.0),
  (h.1.0, ap (λ (b : Bool). cond b (Some m) (marked before o.at)) (below_apart o.at (length before) h.0) ∙ h.1.1, h.1.2),
  there_more m before os h.2,
)

there_turned : (t : Bracket) (m : EntryMark) (before : List EntryMark) (os : List Open) → AreThere (m ∷ before) os → AreThere (m ∷ before) (turned t (length before) m.form os)
there_turned Opens m before os h = (omega arith, (m, ap (λ (b : Bool). cond b (Some m) (marked before (length before))) (same_place (length before)), refl), h)
there_turned Closes m before [] h = tt
there_turned Closes m before (o ∷ os) h = h.2
there_turned Parts m before [] h = tt
there_turned Parts m before (o ∷ os) h = (h.0, h.1, h.2)
there_turned Stays m before os h = h

blocks_there : (before : List EntryMark) → AreThere before (open_blocks before zero)
blocks_there [] = tt
blocks_there (m ∷ before) =
    subst (AreThere (m ∷ before)) (sym (open_blocks-cons m before)) (there_turned (bracket_of m.form) m before (open_blocks before zero) (there_more m before (open_blocks before zero) (blocks_there before)))

got_behind : (before es : List EntryMark) (i n : ℕ) → n ≡ length before + i → slice_get (onto before es) n ≡ slice_get es i
got_behind [] es i n e = let q : n ≡ i = omega (arith, e) in ap (slice_get es) q
got_behind (x ∷ before) es i n e = got_behind before (x ∷ es) (suc i) n (omega (arith, e))

equal_by : (a b : ℕ) → nat_eq a b ≡ true → a ≡ b
equal_by a b h = grind (arith, nat_tests, h)

marked_there : (before es : List EntryMark) (n : ℕ) (m : EntryMark) → marked before n ≡ Some m → slice_get (onto before es) n ≡ Some m
marked_there [] es n m e = absurd (cc e)
marked_there (x ∷ before) es n m e = go (nat_eq n (length before)) refl e (λ h. marked_there before (x ∷ es) n m h)
  where
    go : (b : Bool) → nat_eq n (length before) ≡ b → cond b (Some x) (marked before n) ≡ Some m → (marked before n ≡ Some m → slice_get (onto before (x ∷ es)) n ≡ Some m) → slice_get (onto before (x ∷ es)) n ≡ Some m
    go true is e rest = let q : n ≡ length before = equal_by n (length before) is in got_behind before (x ∷ es) 0 n (omega (arith, q)) ∙ e
    go false is e rest = rest e

first_there : (before : List EntryMark) (os : List Open) (o : Open) → AreThere before os → head_of os ≡ Some o → (o.at < length before) × ((m : EntryMark) × (marked before o.at ≡ Some m) × (m.form ≡ o.form))
first_there before [] o h e = absurd (cc e)
first_there before (p ∷ os) o h e = subst (λ (x : Open). (x.at < length before) × ((m : EntryMark) × (marked before x.at ≡ Some m) × (m.form ≡ x.form))) (the_block p o e) (h.0, h.1)

-- the opener of the innermost block stands at its place
pub opener_there : (ms : List EntryMark) (k : ℕ) (o : Open) → k ≤ length ms → innermost ms k ≡ Some o → (o.at < k) × ((m : EntryMark) × (slice_get ms o.at ≡ Some m) × (m.form ≡ o.form))
opener_there ms k o within e =
    let before = reverse (take k ms) in
    let x = first_there before (open_blocks before zero) o (blocks_there before) e in
    let whole : onto before (drop k ms) ≡ ms = ap (λ (r : List EntryMark). onto r (drop k ms)) (sym (onto_none (take k ms))) ∙ onto_twice (take k ms) [] (drop k ms) ∙ take-append-drop k ms in
    let n = length-reverse (take k ms) in
    let l = length-take-le k ms within in
    let below = x.0 in (
      omega (arith, below, n, l),
      (x.1.0, sym (ap (λ (es : List EntryMark). slice_get es o.at) whole) ∙ marked_there before (drop k ms) o.at x.1.0 x.1.1, x.1.2),
    )

-- the mark before one
pub head_onto : (ms before : List EntryMark) (k : ℕ) (t : EntryMark) → slice_get ms k ≡ Some t → head_of (onto (take (suc k) ms) before) ≡ Some t
head_onto [] before k t e = absurd (cc e)
head_onto (x ∷ ms) before zero t e = e
head_onto (x ∷ ms) before (suc k) t e = head_onto ms (x ∷ before) k t e

-- ---- the last mark

-- the last of these marks, which is one of END
pub record IsEnded (ms : List EntryMark) : Type 0 where
  pub front : List EntryMark
  pub last : EntryMark
  pub ends : last.form ≡ form.End
  pub is : ms ≡ front ++ last ∷ []

got_first : (xs : List EntryMark) (y : EntryMark) (ys : List EntryMark) → slice_get (xs ++ y ∷ ys) (length xs) ≡ Some y
got_first [] y ys = refl
got_first (x ∷ xs) y ys = got_first xs y ys

-- no loop is ended by what can't end one
abbrev pub EndsFit : List EntryMark → Type 0
EndsFit ms = (k : ℕ) (m : EntryMark) → slice_get ms k ≡ Some m → m.form ≡ form.LoopEnd terminal.Unfit → ⊥

pub ended : (ms : List EntryMark) → IsFinished ms → EndsFit ms → IsEnded ms
ended ms f fit = go f.blocks f.no_wrap f.is
  where
    done : ms ≡ (f.front ++ f.last ∷ []) ++ [] → IsEnded ms
    done e = record { front = f.front; last = f.last; ends = f.ends; is = e ∙ append-nil (f.front ++ f.last ∷ []) }

    by_label : (o : Open) (os : List Open) (b : Bool) → ms ≡ (f.front ++ f.last ∷ []) ++ marks_of f.line None f.place (put_end (if b then Some (form.LoopEnd terminal.Unfit) else None) (closing terminal.Unfit f.label os)) → IsEnded ms
    by_label o os true e =
        let m : EntryMark = record { line = f.line; label = None; form = form.LoopEnd terminal.Unfit; place = f.place } in
        let rest = marks_of f.line None f.place (closing terminal.Unfit f.label os) in
        absurd (fit (length (f.front ++ f.last ∷ [])) m (ap (λ (xs : List EntryMark). slice_get xs (length (f.front ++ f.last ∷ []))) e ∙ got_first (f.front ++ f.last ∷ []) m rest) refl)
    by_label o os false e = done e

    go : (os : List Open) → IsNoWrap os → ms ≡ (f.front ++ f.last ∷ []) ++ marks_of f.line None f.place (closing terminal.Unfit f.label os) → IsEnded ms
    go [] wraps e = done e
    go (o ∷ os) wraps e =
        by_label o os (is_closed_by f.label o)
        (e ∙ ap (λ (b : Bool). (f.front ++ f.last ∷ []) ++ marks_of f.line None f.place (put_end (if b then Some form.EndWrap else (if is_closed_by f.label o then Some (form.LoopEnd terminal.Unfit) else None)) (closing terminal.Unfit f.label os))) (wraps o refl))

-- the body ends as its unit does
pub body_ended : (ms : List EntryMark) → IsEnded ms → IsEnded (body_of ms)
body_ended ms h = subst (λ (xs : List EntryMark). IsEnded (body_of xs)) (sym h.is) (go h.front)
  where
    executable : is_executable h.last.form ≡ true
    executable = ap is_executable h.ends

    go : (front : List EntryMark) → IsEnded (body_of (front ++ h.last ∷ []))
    go [] = record { front = []; last = h.last; ends = h.ends; is = ap (λ (b : Bool). if b then h.last ∷ [] else []) executable }
    go (x ∷ front) = by (is_executable x.form) refl (go front)
      where
        by : (b : Bool) → is_executable x.form ≡ b → IsEnded (body_of (front ++ h.last ∷ [])) → IsEnded (body_of (x ∷ (front ++ h.last ∷ [])))
        by true e rest = record { front = x ∷ front; last = h.last; ends = h.ends; is = ap (λ (b : Bool). if b then x ∷ (front ++ h.last ∷ []) else body_of (front ++ h.last ∷ [])) e }
        by false e rest = record { front = rest.front; last = rest.last; ends = rest.ends; is = ap (λ (b : Bool). if b then x ∷ (front ++ h.last ∷ []) else body_of (front ++ h.last ∷ [])) e ∙ rest.is }

-- behind what isn't END comes another mark
pub goes_on : (ms : List EntryMark) → IsEnded ms → (k : ℕ) (m : EntryMark) → slice_get ms k ≡ Some m → (m.form ≡ form.End → ⊥) → suc k < length ms
goes_on ms h k m at other = subst (λ (xs : List EntryMark). suc k < length xs) (sym h.is) (go h.front k (sym (ap (λ (xs : List EntryMark). slice_get xs k) h.is) ∙ at))
  where
    some : (front : List EntryMark) → 0 < length (front ++ h.last ∷ [])
    some [] = omega arith
    some (x ∷ front) = omega arith

    go : (front : List EntryMark) (k : ℕ) → slice_get (front ++ h.last ∷ []) k ≡ Some m → suc k < length (front ++ h.last ∷ [])
    go [] zero e = absurd (other (ap (λ (x : EntryMark). x.form) (sym (the_mark h.last m e)) ∙ h.ends))
    go [] (suc k) e = absurd (cc e)
    go (x ∷ front) zero e = let l = some front in omega (arith, l)
    go (x ∷ front) (suc k) e = let l = go front k e in omega (arith, l)
