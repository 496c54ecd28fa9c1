-- Where variables end.
-- Source: this profile.
use Rattle.std.specs.Prelude.{ℕ, ◌+◌, Bool, true, ◌&&◌, nat_le, nat_lt, cond, Option, Some, None, List, [], ◌∷◌}
use Rattle.fm_code.specs.declared.code.Span.{Span}
use Rattle.fm_code_kinds.specs.declared.sorts.Cell.{Cell}
use Rattle.fm_code_kinds.specs.declared.sorts.Sort.{Sort}
use Rattle.fm_code_kinds.specs.Shapes.{sort_in}

abbrev pub cell_end : Cell → ℕ
cell_end c = c.first + c.words

-- none ends before this word, nor before an earlier one does
abbrev pub rise_from : (low : ℕ) → List Cell → Bool
rise_from low [] = true
rise_from low (c ∷ cs) = nat_le low (cell_end c) && rise_from (cell_end c) cs

-- the first that ends behind the word
abbrev pub first_past : List Cell → (first : ℕ) → Option Cell
first_past [] first = None
first_past (c ∷ cs) first = cond (nat_lt first (cell_end c)) (Some c) (first_past cs first)

-- what it is, where it has these words
abbrev pub sort_of : Option Cell → Span → Option Sort
sort_of None s = None
sort_of (Some c) s = sort_in c s
