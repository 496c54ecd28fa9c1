-- What names mean in the units of a program.
-- Source: ANSI X3.9-1978, sections 18.1 and 18.2 (scope and classes of names); the Fortran M report for ports; this profile.
use Rattle.std.specs.Prelude.{ℕ, ℤ, ◌+◌, Bool, false, if◌then◌else◌, Option, Some, None, List, [], ◌∷◌, ◌++◌, map, length, slice_get}
use Rattle.std.specs.FinMap.{get}
use Rattle.fm_tree.specs.declared.form.UnitKind.{UnitKind}
use Rattle.fm_tree.specs.declared.port_type.Kind.{Kind}
use Rattle.fm_tree.specs.declared.port_type.Kind.TheVariants as kind
use Rattle.fm_tree.specs.declared.program_unit.Unit.{Unit}
use Rattle.fm_tree.specs.declared.statement.Stmt.{Stmt}
use Rattle.fm_symbols.specs.ByName.{ByName, first_of_each}
use Rattle.fm_symbols.specs.Headings.{heading_name, heading_formals, heading_kind, is_function}
use Rattle.fm_symbols.specs.Titles.{heading_of, titles_by}
use Rattle.fm_symbols.specs.declared.names.Constant.{Constant}
use Rattle.fm_symbols.specs.declared.names.Constant.TheVariants as constant
use Rattle.fm_symbols.specs.declared.names.Variable.{Variable}
use Rattle.fm_symbols.specs.declared.names.UnitNames.{UnitNames}
use Rattle.fm_symbols.specs.declared.symbol.Scalar.{Scalar}
use Rattle.fm_symbols.specs.declared.symbol.Scalar.TheVariants.{Integer, Logical}
use Rattle.fm_symbols.specs.declared.symbol.Direction.{Direction}
use Rattle.fm_symbols.specs.declared.symbol.Direction.TheVariants.{In, Out}
use Rattle.fm_symbols.specs.declared.symbol.Symbol.{Symbol}
use Rattle.fm_symbols.specs.declared.symbol.Symbol.TheVariants as symbol
use Rattle.fm_symbols.specs.declared.symbol.Formal.{Formal}
use Rattle.fm_symbols.specs.declared.symbol.Formal.TheVariants as formal
use Rattle.fm_symbols.specs.declared.context.Scope.{Scope}
use Rattle.fm_symbols.specs.declared.context.Context.{Context}

-- Symbols of a unit.

abbrev pub value_symbol : Scalar → List (ℤ × ℤ) → (words place : ℕ) → Symbol
value_symbol s [] words place = symbol.Variable s place
value_symbol s (b ∷ bs) words place = symbol.Array s place (record { dimensions = length (b ∷ bs); elements = words })

abbrev pub port_symbol : Direction → List (ℤ × ℤ) → (words place : ℕ) → Symbol
port_symbol d [] words place = symbol.Port d place
port_symbol d (b ∷ bs) words place = symbol.Ports d place (record { dimensions = length (b ∷ bs); elements = words })

abbrev pub symbol_by : Kind → List (ℤ × ℤ) → (words place : ℕ) → Symbol
symbol_by kind.Integer bounds words place = value_symbol Integer bounds words place
symbol_by kind.Logical bounds words place = value_symbol Logical bounds words place
symbol_by (kind.In p) bounds words place = port_symbol In bounds words place
symbol_by (kind.Out p) bounds words place = port_symbol Out bounds words place

-- the variable at a place of its unit
abbrev pub symbol_of : ℕ → Variable → Symbol
symbol_of place v = symbol_by v.kind v.bounds v.words place

abbrev pub constant_symbol : Constant → Symbol
constant_symbol (constant.Integer n) = symbol.Constant Integer
constant_symbol (constant.Logical b) = symbol.Constant Logical

abbrev pub constant_entry : List ℕ × Constant → List ℕ × Symbol
constant_entry c = (c.0, constant_symbol c.1)

abbrev pub variable_entries : ℕ → List Variable → List (List ℕ × Symbol)
variable_entries place [] = []
variable_entries place (v ∷ vs) = (v.name, symbol_of place v) ∷ variable_entries (place + 1) vs

-- the place of what a name means, if that is a variable
abbrev pub symbol_place : Option Symbol → Option ℕ
symbol_place None = None
symbol_place (Some (symbol.Constant s)) = None
symbol_place (Some (symbol.Variable s place)) = Some place
symbol_place (Some (symbol.Array s place x)) = Some place
symbol_place (Some (symbol.Port d place)) = Some place
symbol_place (Some (symbol.Ports d place x)) = Some place
symbol_place (Some (symbol.Function k)) = None

-- the constants and the variables of a unit by their names
abbrev pub symbols_of : UnitNames → ByName Symbol
symbols_of n = first_of_each (map constant_entry n.constants ++ variable_entries 0 n.variables)

-- Units.

-- what a formal argument wants. In a unit that breaks no rule every formal is a variable
abbrev pub formal_by : Option Symbol → Formal
formal_by None = formal.Value Integer
formal_by (Some (symbol.Constant s)) = formal.Value s
formal_by (Some (symbol.Variable s place)) = formal.Value s
formal_by (Some (symbol.Array s place x)) = formal.Array s x.elements
formal_by (Some (symbol.Port d place)) = formal.Port place
formal_by (Some (symbol.Ports d place x)) = formal.Port place
formal_by (Some (symbol.Function k)) = formal.Value Integer

abbrev pub formal_in : ByName Symbol → List ℕ → Formal
formal_in symbols name = formal_by (get symbols name)

abbrev pub scalar_by : Option Symbol → Option Scalar
scalar_by None = None
scalar_by (Some (symbol.Constant s)) = Some s
scalar_by (Some (symbol.Variable s place)) = Some s
scalar_by (Some (symbol.Array s place x)) = Some s
scalar_by (Some (symbol.Port d place)) = None
scalar_by (Some (symbol.Ports d place x)) = None
scalar_by (Some (symbol.Function k)) = None

-- the type of the result of a FUNCTION: that of the variable with its name
abbrev pub result_in : UnitKind → ByName Symbol → Option (List ℕ) → Option Scalar
result_in k symbols None = None
result_in k symbols (Some name) = if is_function k then scalar_by (get symbols name) else None

abbrev pub scope_with : ByName Symbol → Unit → Scope
scope_with symbols u = record {
  kind = heading_kind u.heading.stmt;
  symbols = symbols;
  formals = map (formal_in symbols) (heading_formals u.heading.stmt);
  result = result_in (heading_kind u.heading.stmt) symbols (heading_name u.heading.stmt);
}

abbrev pub scope_of : Unit → UnitNames → Scope
scope_of u n = scope_with (symbols_of n) u

abbrev pub scopes_of : List Unit → List UnitNames → List Scope
scopes_of [] ns = []
scopes_of (u ∷ us) [] = []
scopes_of (u ∷ us) (n ∷ ns) = scope_of u n ∷ scopes_of us ns

abbrev pub number_told : (number : ℕ) → Stmt → ℕ
number_told number h = number

-- the number of the first unit with a name
abbrev pub unit_numbers : List Unit → ByName ℕ
unit_numbers us = titles_by number_told (map heading_of us)

-- the meaning of the names of a program
abbrev pub context_of : List Unit → List UnitNames → Context
context_of us ns = record { units = unit_numbers us; scopes = scopes_of us ns }

-- Looking up.

abbrev pub or_else : Option Symbol → Option Symbol → Option Symbol
or_else None other = other
or_else (Some s) other = Some s

abbrev pub is_function_scope : Option Scope → Bool
is_function_scope None = false
is_function_scope (Some s) = is_function s.kind

abbrev pub function_at : Context → Option ℕ → Option Symbol
function_at c None = None
function_at c (Some k) = if is_function_scope (slice_get c.scopes k) then Some (symbol.Function k) else None

-- the FUNCTION with a name
abbrev pub function_named : Context → List ℕ → Option Symbol
function_named c name = function_at c (get c.units name)

-- what a name means that stands alone in the unit of a scope: a constant, a variable, or another FUNCTION
abbrev pub symbol_in : Context → Scope → List ℕ → Option Symbol
symbol_in c s name = or_else (get s.symbols name) (function_named c name)
