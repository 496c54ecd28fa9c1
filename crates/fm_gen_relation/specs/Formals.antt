-- What code tells of the words of a unit's frame: the formals, and the ports.
-- Source: ANSI X3.9-1978, section 15.9 (arguments); the Fortran M report for ports.
use Rattle.std.specs.Prelude.{ℕ, zero, suc, not, cond, Option, Some, None, List, [], ◌∷◌, ◌++◌, length, slice_get}
use Rattle.fm_symbols.specs.declared.names.Variable.{Variable}
use Rattle.fm_mean.specs.Names.{formal_from}
use Rattle.fm_code.specs.declared.code.Formal.{Formal}
use Rattle.fm_code.specs.declared.code.Span.{Span}
use Rattle.fm_gen_relation.specs.Sound.{is_word, formals_among}

-- the words of a variable
abbrev pub span_of : Variable → Span
span_of v = record { first = v.first; count = v.words }

-- those of all ports, in the order of the variables
abbrev pub ports_of : List Variable → List Span
ports_of [] = []
ports_of (v ∷ vs) = cond (is_word v.kind) (ports_of vs) (span_of v ∷ ports_of vs)

abbrev pub formal_of : Variable → Formal
formal_of v = record { span = span_of v; port = not (is_word v.kind); input = v.input }

abbrev pub formal_if : Option Variable → List Formal
formal_if None = []
formal_if (Some v) = formal_of v ∷ []

-- so many formals, the first of which has this number
abbrev pub formals_from : List Variable → (n count : ℕ) → List Formal
formals_from vs n zero = []
formals_from vs n (suc k) = formal_if (slice_get vs (formal_from 0 n vs)) ++ formals_from vs (suc n) k

-- the formals by their numbers, which is the order of the heading; among the variables a FUNCTION's own name comes first, also
-- where it is one of the later formals
abbrev pub formals_of : List Variable → List Formal
formals_of vs = formals_from vs 1 (length (formals_among vs))
