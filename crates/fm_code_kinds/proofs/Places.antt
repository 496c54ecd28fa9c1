-- Words of one variable are words of the frame.
use Rattle.std.proofs.Common.{◌≡◌, ℕ, ◌+◌, ◌≤◌, ◌<◌, ℤ, pos, Bool, true, false, cond, Option, Some, None, List, [], ◌∷◌, length, slice_get, get_or, refl, arith}
use Rattle.std.proofs.lemmas.Bool.{and_parts, leb-true}
use Rattle.std.proofs.lemmas.Option.{slice_get-get_or}
use Rattle.std.specs.Prelude.{nat_le, nat_lt}
use Rattle.std.specs.List.{AllByRecursion}
use Rattle.fm_code.specs.declared.body.Trips.{Trips}
use Rattle.fm_code.specs.declared.code.Span.{Span}
use Rattle.fm_code_kinds.specs.declared.sorts.Sort.{Sort}
use Rattle.fm_code_kinds.specs.declared.sorts.Cell.{Cell}
use Rattle.fm_code_kinds.specs.Shapes.{cell_span, is_inside, sort_in, sort_at, is_word_sort, are_words}

-- the words of each cell are among the first n
abbrev pub AreInside : ℕ → List Cell → Type 0
AreInside n = AllByRecursion (λ c. c.first + c.words ≤ n)

inside_end : (s t : Span) → is_inside s t ≡ true → s.first + s.count ≤ t.first + t.count
inside_end s t e = leb-true (s.first + s.count) (t.first + t.count) (and_parts (nat_le t.first s.first) (nat_le (s.first + s.count) (t.first + t.count)) e).1

pub sorted_inside : (n : ℕ) (cs : List Cell) → AreInside n cs → (s : Span) (t : Sort) → sort_at cs s ≡ Some t → s.first + s.count ≤ n
sorted_inside n [] inside s t e = absurd cc
sorted_inside n (c ∷ cs) inside s t e = go (sorted_inside n cs inside.1 s t) (nat_lt s.first (c.first + c.words)) e
  where
    here : (b : Bool) → is_inside s (cell_span c) ≡ b → cond b (Some c.sort) None ≡ Some t → s.first + s.count ≤ n
    here true is e = omega (arith, inside_end s (cell_span c) is, inside.0)
    here false is e = absurd cc

    go : (sort_at cs s ≡ Some t → s.first + s.count ≤ n) → (b : Bool) → cond b (sort_in c s) (sort_at cs s) ≡ Some t → s.first + s.count ≤ n
    go more true e = here (is_inside s (cell_span c)) refl e
    go more false e = more e

pub words_inside : (n : ℕ) (cs : List Cell) → AreInside n cs → (s : Span) → are_words cs s ≡ true → s.first + s.count ≤ n
words_inside n cs inside s e = go (sort_at cs s) refl e
  where
    go : (o : Option Sort) → sort_at cs s ≡ o → is_word_sort o ≡ true → s.first + s.count ≤ n
    go None is e = absurd cc
    go (Some t) is e = sorted_inside n cs inside s t is

-- a word of the frame is there
pub word_there : (ws : List ℤ) (k : ℕ) → k < length ws → (v : ℤ) × (slice_get ws k ≡ Some v)
word_there ws k low = (get_or ws k (pos 0), slice_get-get_or ws k (pos 0) low)

-- so are the trips of a loop
pub loop_there : (ts : List (Option Trips)) (k : ℕ) → k < length ts → (t : Option Trips) × (slice_get ts k ≡ Some t)
loop_there ts k low = (get_or ts k None, slice_get-get_or ts k None low)
