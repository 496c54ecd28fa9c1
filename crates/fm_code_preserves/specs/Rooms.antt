-- Words of frames that are those of one variable, what is passed over them, and what is given back.
-- Source: ANSI X3.9-1978, sections 15.5 to 15.9, with copying in and back by this profile.
use Rattle.std.specs.Prelude.{◌≡◌, ℕ, ◌+◌, ◌≤◌, Bool, true, false, cond, Some, List, [], ◌∷◌, length, slice_get}
use Rattle.std.specs.List.{AllByRecursion}
use Rattle.fm_code.specs.declared.ask.Operand.{Operand}
use Rattle.fm_code.specs.declared.ask.Operand.TheVariants as operand
use Rattle.fm_code.specs.declared.body.Back.{Back}
use Rattle.fm_code.specs.declared.code.Code.{Code}
use Rattle.fm_code.specs.declared.code.Span.{Span}
use Rattle.fm_code.specs.declared.code.Unit as code_unit
use Rattle.fm_code.specs.Passing.{got_span, given_span}
use Rattle.fm_code_kinds.specs.declared.sorts.Cell.{Cell}
use Rattle.fm_code_kinds.specs.declared.sorts.Shape.{Shape}
use Rattle.fm_code_kinds.specs.declared.sorts.Shapes.{Shapes}
use Rattle.fm_code_kinds.specs.declared.sorts.Sort.{Sort}
use Rattle.fm_code_kinds.specs.Shapes.{cell_span, is_port, is_word, single, sort_at}
use Rattle.fm_code_kinds.specs.Effects.{cells_of, is_port_sort}
use Rattle.fm_code_kinds.specs.Bodies.{IsTypedCode}

-- whether the word with this number is a port word
abbrev pub is_port_word : List Cell → ℕ → Bool
is_port_word cells k = is_port_sort (sort_at cells (single k))

-- the spans of ports
abbrev pub port_spans : List Cell → List Span
port_spans [] = []
port_spans (c ∷ cs) = cond (is_word c.sort) (port_spans cs) (cell_span c ∷ port_spans cs)

-- cells stand one behind the other, from this word on, each with some words
abbrev pub AreLaid : ℕ → List Cell → Type 0
AreLaid n [] = Unit {0}
AreLaid n (c ∷ cs) = (c.first ≡ n) × (1 ≤ c.words) × AreLaid (n + c.words) cs

-- a unit of code knows the port words of its cells, and has a first instruction
pub record IsLaidUnit (u : Shape) (c : code_unit.Unit) : Type 0 where
  pub ports : c.ports ≡ port_spans u.cells
  pub laid : AreLaid 0 u.cells
  pub begins : 1 ≤ length c.code

-- code whose units have their shapes and kinds, and know their port words
pub record IsLaidCode (ss : Shapes) (code : Code) : Type 0 where
  pub typed : IsTypedCode ss code
  pub units : (n : ℕ) (u : Shape) (c : code_unit.Unit) → slice_get ss.units n ≡ Some u → slice_get code.units n ≡ Some c → IsLaidUnit u c

abbrev pub cells_at : Shapes → ℕ → List Cell
cells_at ss n = cells_of (slice_get ss.units n)

-- words of one variable, which are port words or aren't
pub record IsRoom (cells : List Cell) (s : Span) (port : Bool) : Type 0 where
  pub sort : Sort
  pub at : sort_at cells s ≡ Some sort
  pub port_is : is_port sort ≡ port

-- what is given back comes from words of one kind and goes to words of the same
pub record BackFits (mine theirs : List Cell) (b : Back) : Type 0 where
  pub got : IsRoom mine (got_span b) b.port
  pub given : IsRoom theirs (given_span b) b.port

abbrev pub BacksFit : (mine theirs : List Cell) → List Back → Type 0
BacksFit mine theirs = AllByRecursion (BackFits mine theirs)

-- an operand that is sent: port words are those of one variable
abbrev pub IsSendable : List Cell → Operand → Type 0
IsSendable cells (operand.Value v) = Unit {0}
IsSendable cells (operand.Words s) = Unit {0}
IsSendable cells (operand.Ports s) = IsRoom cells s true

-- one whose words are all port words
abbrev pub IsPorts : List Cell → Operand → Type 0
IsPorts cells (operand.Value v) = Unit {0}
IsPorts cells (operand.Words s) = ⊥
IsPorts cells (operand.Ports s) = IsRoom cells s true

-- one that is stored into
abbrev pub IsTarget : List Cell → Operand → Type 0
IsTarget cells (operand.Value v) = ⊥
IsTarget cells (operand.Words s) = IsRoom cells s false
IsTarget cells (operand.Ports s) = IsRoom cells s true
