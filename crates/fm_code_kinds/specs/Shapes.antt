-- What is known of units beside their code: what stands in the words of their frames, and the types of ports.
-- Source: this profile.
use Rattle.std.specs.Prelude.{ℕ, ◌+◌, Bool, true, false, not, ◌&&◌, ◌==◌, nat_lt, nat_le, cond, Option, Some, None, List, [], ◌∷◌, slice_get}
use Rattle.fm_code.specs.declared.code.Span.{Span}
use Rattle.fm_code_kinds.specs.declared.sorts.Sort.{Sort}
use Rattle.fm_code_kinds.specs.declared.sorts.Sort.TheVariants.{Integer, Logical, In, Out}
use Rattle.fm_code_kinds.specs.declared.sorts.Heading.{Heading}
use Rattle.fm_code_kinds.specs.declared.sorts.Heading.TheVariants.{Program, Process, Subroutine, Function}
use Rattle.fm_code_kinds.specs.declared.sorts.Cell.{Cell}
use Rattle.fm_code_kinds.specs.declared.sorts.Field.{Field}
use Rattle.fm_code_kinds.specs.declared.sorts.Shapes.{Shapes}

abbrev pub is_word : Sort → Bool
is_word Integer = true
is_word Logical = true
is_word (In t) = false
is_word (Out t) = false

abbrev pub is_port : Sort → Bool
is_port s = not (is_word s)

abbrev pub same_sort : Sort → Sort → Bool
same_sort Integer Integer = true
same_sort Integer Logical = false
same_sort Integer (In t) = false
same_sort Integer (Out t) = false
same_sort Logical Integer = false
same_sort Logical Logical = true
same_sort Logical (In t) = false
same_sort Logical (Out t) = false
same_sort (In t) Integer = false
same_sort (In t) Logical = false
same_sort (In t) (In u) = t == u
same_sort (In t) (Out u) = false
same_sort (Out t) Integer = false
same_sort (Out t) Logical = false
same_sort (Out t) (In u) = false
same_sort (Out t) (Out u) = t == u

abbrev pub cell_span : Cell → Span
cell_span c = record { first = c.first; count = c.words }

abbrev pub is_process : Heading → Bool
is_process Program = false
is_process Process = true
is_process Subroutine = false
is_process Function = false

abbrev pub is_subroutine : Heading → Bool
is_subroutine Program = false
is_subroutine Process = false
is_subroutine Subroutine = true
is_subroutine Function = false

abbrev pub is_function : Heading → Bool
is_function Program = false
is_function Process = false
is_function Subroutine = false
is_function Function = true

-- ---- words of a frame

-- the words lie among these
abbrev pub is_inside : Span → Span → Bool
is_inside inner outer = nat_le outer.first inner.first && nat_le (inner.first + inner.count) (outer.first + outer.count)

-- what the cell is that has all of these words: the first cell that ends behind their first word
abbrev pub sort_in : Cell → Span → Option Sort
sort_in c s = cond (is_inside s (cell_span c)) (Some c.sort) None

abbrev pub sort_at : List Cell → Span → Option Sort
sort_at [] s = None
sort_at (c ∷ cs) s = cond (nat_lt s.first (c.first + c.words)) (sort_in c s) (sort_at cs s)

abbrev pub is_word_sort : Option Sort → Bool
is_word_sort None = false
is_word_sort (Some s) = is_word s

-- words of one variable that isn't a port
abbrev pub are_words : List Cell → Span → Bool
are_words cells s = is_word_sort (sort_at cells s)

abbrev pub has_sort : Option Sort → Sort → Bool
has_sort None s = false
has_sort (Some t) s = same_sort t s

-- port words of one variable of this sort
abbrev pub are_ports : List Cell → Span → Sort → Bool
are_ports cells s t = has_sort (sort_at cells s) t

abbrev pub single : ℕ → Span
single k = record { first = k; count = 1 }

-- the words of all cells
abbrev pub words_of : List Cell → ℕ
words_of [] = 0
words_of (c ∷ cs) = c.words + words_of cs

-- ---- formals

abbrev pub formal_at : List Cell → (place : ℕ) → Option Cell
formal_at [] n = None
formal_at (c ∷ cs) n = cond (c.formal == n) (Some c) (formal_at cs n)

abbrev pub fields_in : Option (List Field) → List Field
fields_in None = []
fields_in (Some fs) = fs

abbrev pub fields_of : Shapes → (type : ℕ) → List Field
fields_of ss t = fields_in (slice_get ss.types t)
