-- Formals each of which begins before the next one: which half of them may have a span.
use Rattle.std.proofs.Common.{◌≡◌, ℕ, ◌<◌, ◌≤◌, ◌==◌, Bool, true, false, not, ◌&&◌, ◌||◌, List, [], ◌∷◌, ◌++◌, ◌/◌, suc, length, take, drop, length-drop, refl, sym, ap, ap₂, ◌∙◌, arith}
use Rattle.std.proofs.lemmas.Bool.{eqb-true, ltb-true}
use Rattle.std.proofs.lemmas.List.Folds.{list_any-append}
use Rattle.std.proofs.lemmas.List.{length-take, take-append-drop}
use Rattle.fm_code.specs.declared.code.Formal.{Formal}
use Rattle.fm_code.specs.declared.code.Span.{Span}
use Rattle.fm_proc_language.specs.Frames.{is_kept}
use Rattle.fm_proc_slots.specs.Keeps.{begins_before, kept_one, rise}

both : (a b : Bool) → (a && b) ≡ true → (a ≡ true) × (b ≡ true)
both true b h = (refl, h)
both false b h = absurd (cc h)

-- Formals that all begin behind a place, and those that all begin before it.

abbrev AreBehind : ℕ → List Formal → Type 0
AreBehind n [] = Unit {0}
AreBehind n (f ∷ fs) = (n < f.span.first) × AreBehind n fs

abbrev AreBefore : ℕ → List Formal → Type 0
AreBefore n [] = Unit {0}
AreBefore n (f ∷ fs) = (f.span.first < n) × AreBefore n fs

behind_less : (n m : ℕ) (fs : List Formal) → n ≤ m → AreBehind m fs → AreBehind n fs
behind_less n m [] le h = tt
behind_less n m (f ∷ fs) le h = (omega (arith, h.0), behind_less n m fs le h.1)

rise_behind : (f : Formal) (fs : List Formal) → rise (f ∷ fs) ≡ true → AreBehind f.span.first fs
rise_behind f [] h = tt
rise_behind f (g ∷ gs) h =
    let parts = both (begins_before f (g ∷ gs)) (rise (g ∷ gs)) h in
    let less = ltb-true f.span.first g.span.first parts.0 in
    (less, behind_less f.span.first g.span.first gs (omega (arith, less)) (rise_behind g gs parts.1))

one_behind : (n : ℕ) (low : List Formal) (f : Formal) (high : List Formal) → AreBehind n (low ++ f ∷ high) → n < f.span.first
one_behind n [] f high h = h.0
one_behind n (g ∷ low) f high h = one_behind n low f high h.1

rise_before : (low : List Formal) (f : Formal) (high : List Formal) → rise (low ++ f ∷ high) ≡ true → AreBefore f.span.first low
rise_before [] f high h = tt
rise_before (g ∷ low) f high h =
    (one_behind g.span.first low f high (rise_behind g (low ++ f ∷ high) h), rise_before low f high (both (begins_before g (low ++ f ∷ high)) (rise (low ++ f ∷ high)) h).1)

-- None of them has the span.

not_kept : (f : Formal) (s : Span) → (f.span.first ≡ s.first → ⊥) → kept_one f s.first ≡ false
not_kept f s ne = go (f.port) (not f.input) (f.span.first == s.first) refl
  where
    go : (a b c : Bool) → (f.span.first == s.first) ≡ c → (a && b && c) ≡ false
    go a b true e = absurd (ne (eqb-true f.span.first s.first e))
    go true true false e = refl
    go true false false e = refl
    go false b false e = refl

none_behind : (s : Span) (n : ℕ) (fs : List Formal) → s.first ≤ n → AreBehind n fs → is_kept fs s ≡ false
none_behind s n [] le h = refl
none_behind s n (f ∷ fs) le h = ap (λ (b : Bool). b || is_kept fs s) (not_kept f s (λ e. omega (arith, le, e, h.0))) ∙ none_behind s n fs le h.1

none_before : (s : Span) (n : ℕ) (fs : List Formal) → n ≤ s.first → AreBefore n fs → is_kept fs s ≡ false
none_before s n [] le h = refl
none_before s n (f ∷ fs) le h = ap (λ (b : Bool). b || is_kept fs s) (not_kept f s (λ e. omega (arith, le, e, h.0))) ∙ none_before s n fs le h.1

-- Halves.

pub rise_last : (xs ys : List Formal) → rise (xs ++ ys) ≡ true → rise ys ≡ true
rise_last [] ys h = h
rise_last (x ∷ xs) ys h = rise_last xs ys (both (begins_before x (xs ++ ys)) (rise (xs ++ ys)) h).1

pub rise_first : (xs ys : List Formal) → rise (xs ++ ys) ≡ true → rise xs ≡ true
rise_first [] ys h = refl
rise_first (x ∷ []) ys h = refl
rise_first (x ∷ y ∷ xs) ys h =
    let parts = both (begins_before x (y ∷ (xs ++ ys))) (rise (y ∷ (xs ++ ys))) h in
    ap (λ (b : Bool). b && rise (y ∷ xs)) parts.0 ∙ rise_first (y ∷ xs) ys parts.1

or_false : (b : Bool) → (b || false) ≡ b
or_false true = refl
or_false false = refl

module _ (fs low : List Formal) (f : Formal) (high : List Formal) (s : Span) (all : fs ≡ low ++ f ∷ high) (up : rise fs ≡ true) where
  up_here : rise (low ++ f ∷ high) ≡ true
  up_here = ap rise (sym all) ∙ up

  up_last : rise (f ∷ high) ≡ true
  up_last = rise_last low (f ∷ high) up_here

  halves : is_kept fs s ≡ (is_kept low s || is_kept (f ∷ high) s)
  halves = ap (λ (l : List Formal). is_kept l s) all ∙ list_any-append (λ (g : Formal). kept_one g s.first) low (f ∷ high)

  pub low_rises : rise low ≡ true
  low_rises = rise_first low (f ∷ high) up_here

  pub high_rises : rise high ≡ true
  high_rises = (both (begins_before f high) (rise high) up_last).1

  none_low : f.span.first ≤ s.first → is_kept low s ≡ false
  none_low le = none_before s f.span.first low le (rise_before low f high up_here)

  none_high : s.first ≤ f.span.first → is_kept high s ≡ false
  none_high le = none_behind s f.span.first high le (rise_behind f high up_last)

  pub in_low : s.first < f.span.first → is_kept low s ≡ is_kept fs s
  in_low less =
      let one = not_kept f s (λ e. omega (arith, e, less)) in
      let none : is_kept (f ∷ high) s ≡ false = ap (λ (b : Bool). b || is_kept high s) one ∙ none_high (omega (arith, less)) in
      sym (halves ∙ ap (λ (b : Bool). is_kept low s || b) none ∙ or_false (is_kept low s))

  pub in_high : f.span.first < s.first → is_kept high s ≡ is_kept fs s
  in_high less =
      let one = not_kept f s (λ e. omega (arith, e, less)) in
      sym (halves ∙ ap (λ (b : Bool). b || is_kept (f ∷ high) s) (none_low (omega (arith, less))) ∙ ap (λ (b : Bool). b || is_kept high s) one)

  pub in_middle : s.first ≤ f.span.first → f.span.first ≤ s.first → kept_one f s.first ≡ is_kept fs s
  in_middle le ge =
      sym (halves ∙ ap (λ (b : Bool). b || is_kept (f ∷ high) s) (none_low ge) ∙ ap (λ (b : Bool). kept_one f s.first || b) (none_high le) ∙ or_false (kept_one f s.first))

-- nothing is found among none
pub none_found : (fs from : List Formal) (s : Span) (half : ℕ) → from ≡ drop half fs → half ≡ length fs / 2 → from ≡ [] → is_kept fs s ≡ false
none_found [] from s half is at none = refl
none_found (f ∷ fs) from s half is at none = absurd (omega (arith, ap length (sym is ∙ none), length-drop half (f ∷ fs), at))

-- both halves, which are shorter
pub halves_whole : (fs low from high : List Formal) (f : Formal) (half : ℕ) → low ≡ take half fs → from ≡ drop half fs → from ≡ f ∷ high → fs ≡ low ++ f ∷ high
halves_whole fs low from high f half front is some = sym (take-append-drop half fs) ∙ ap₂ (λ (xs ys : List Formal). xs ++ ys) (sym front) (sym is ∙ some)

pub halves_shorter : (fs low from high : List Formal) (f : Formal) (half : ℕ) → half ≡ length fs / 2 → low ≡ take half fs → from ≡ drop half fs → from ≡ f ∷ high → (length low < length fs) × (length high < length fs)
halves_shorter fs low from high f half at front is some =
    let count : length (drop half fs) ≡ suc (length high) = ap length (sym is ∙ some) in
    let size = length-drop half fs in
    (omega (arith, at, count, size, ap length front, length-take half fs), omega (arith, at, count, size))
