-- What the statements of a unit say of its names: constants, types, bounds, INTENT, formal arguments, and in which order they
-- first stand.
-- Source: ANSI X3.9-1978, sections 8.1 (DIMENSION), 8.4 (type statements), 8.6 (PARAMETER), 15.5.1 (the type of a FUNCTION) and
-- 15.9 (arguments); the Fortran M report for ports; this profile for INTENT.
use Rattle.std.specs.Prelude.{ℕ, ◌+◌, Bool, true, false, Option, Some, None, unwrap_or, List, [], ◌∷◌, ◌++◌, map}
use Rattle.std.specs.List.{flat_map}
use Rattle.fm_tree.specs.declared.port_type.Bound.{Bound}
use Rattle.fm_tree.specs.declared.port_type.Kind.{Kind}
use Rattle.fm_tree.specs.declared.port_type.Kind.TheVariants as kind
use Rattle.fm_tree.specs.declared.program_unit.Placed.{Placed}
use Rattle.fm_tree.specs.declared.program_unit.Unit.{Unit}
use Rattle.fm_tree.specs.declared.statement.Decl.{Decl}
use Rattle.fm_tree.specs.declared.statement.Way.{Way}
use Rattle.fm_tree.specs.declared.statement.Way.TheVariants as way
use Rattle.fm_tree.specs.declared.statement.Stmt.{Stmt}
use Rattle.fm_tree.specs.declared.statement.Stmt.TheVariants as stmt
use Rattle.fm_symbols.specs.ByName.{ByName, first_of_each}
use Rattle.fm_symbols.specs.Headings.{heading_formals}
use Rattle.fm_rules.specs.declared.constants.Known.{Known}
use Rattle.fm_rules.specs.Bounds.{bounds_of, elements}
use Rattle.fm_rules.specs.Constants.{constants_of}
use Rattle.fm_rules.specs.ConstantParts.{decls_of}
use Rattle.fm_rules.specs.PortTypes.{normal_type}
use Rattle.fm_rules.specs.NameTypes.{types_of}
use Rattle.fm_rules.specs.declared.sheet.ArrayShape.{ArrayShape}
use Rattle.fm_rules.specs.Arrays.{is_array}
use Rattle.fm_rules.specs.Occurrences.{first_occurrences, occurrences}
use Rattle.fm_rules.specs.declared.sheet.Sheet.{Sheet}

-- Types. Of several for a name the first counts.

-- the type that a statement, at its place in the unit, gives the names that it declares
unfoldable pub kind_in : ByName Known → (at : ℕ) → Stmt → Option Kind
kind_in known at (stmt.Integer decls) = Some kind.Integer
kind_in known at (stmt.Logical decls) = Some kind.Logical
kind_in known at (stmt.Inport p decls) = Some (kind.In (normal_type known at p))
kind_in known at (stmt.Outport p decls) = Some (kind.Out (normal_type known at p))
kind_in known at s = None

abbrev pub kind_entries : Option Kind → List Decl → List (List ℕ × Kind)
kind_entries None decls = []
kind_entries (Some k) decls = map (λ (d : Decl). (d.name, k)) decls

abbrev pub kinds_at : ByName Known → (at : ℕ) → Placed → List (List ℕ × Kind)
kinds_at known at p = kind_entries (kind_in known at p.stmt) (decls_of p.stmt)

abbrev pub kinds_from : ByName Known → (at : ℕ) → List Placed → List (List ℕ × Kind)
kinds_from known at [] = []
kinds_from known at (p ∷ ps) = kinds_at known at p ++ kinds_from known (at + 1) ps

-- the type that a heading gives the FUNCTION's own name
unfoldable pub own_kind : Stmt → List (List ℕ × Kind)
own_kind (stmt.IntegerFunction name formals) = (name, kind.Integer) ∷ []
own_kind (stmt.LogicalFunction name formals) = (name, kind.Logical) ∷ []
own_kind s = []

abbrev pub kinds_of : ByName Known → Unit → ByName Kind
kinds_of known u = first_of_each (own_kind u.heading.stmt ++ kinds_from known 0 u.specs)

-- Bounds.

abbrev pub array_shape : ByName Known → (at : ℕ) → List Bound → ArrayShape
array_shape known at bounds = record { bounds = unwrap_or (bounds_of known at bounds) []; words = elements known at bounds }

-- what is declared with bounds is an array
abbrev pub shape_entries : ByName Known → (at : ℕ) → List ℕ → List Bound → List (List ℕ × ArrayShape)
shape_entries known at name [] = []
shape_entries known at name (b ∷ bs) = (name, array_shape known at (b ∷ bs)) ∷ []

abbrev pub decl_shapes : ByName Known → (at : ℕ) → Decl → List (List ℕ × ArrayShape)
decl_shapes known at d = shape_entries known at d.name d.bounds

abbrev pub shapes_from : ByName Known → (at : ℕ) → List Placed → List (List ℕ × ArrayShape)
shapes_from known at [] = []
shapes_from known at (p ∷ ps) = flat_map (decl_shapes known at) (decls_of p.stmt) ++ shapes_from known (at + 1) ps

abbrev pub arrays_of : ByName Known → List Placed → ByName ArrayShape
arrays_of known specs = first_of_each (shapes_from known 0 specs)

-- INTENT, and the formal arguments.

abbrev pub is_in : Way → Bool
is_in way.In = true
is_in way.Out = false
is_in way.InOut = false

unfoldable pub intents_in : Stmt → List (List ℕ × Bool)
intents_in (stmt.Intent w names) = map (λ (name : List ℕ). (name, is_in w)) names
intents_in s = []

abbrev pub intents_at : Placed → List (List ℕ × Bool)
intents_at p = intents_in p.stmt

-- for each name with INTENT whether it is IN
abbrev pub inputs_of : List Placed → ByName Bool
inputs_of specs = first_of_each (flat_map intents_at specs)

-- names with their places from a number on
abbrev pub numbered : ℕ → List (List ℕ) → List (List ℕ × ℕ)
numbered number [] = []
numbered number (name ∷ names) = (name, number) ∷ numbered (number + 1) names

-- the places of the formal arguments, from 1
abbrev pub formals_of : Stmt → ByName ℕ
formals_of heading = first_of_each (numbered 1 (heading_formals heading))

-- All of it.

abbrev pub sheet_with : ByName Known → ByName ArrayShape → Unit → Sheet
sheet_with known arrays u = record {
  known = known;
  types = types_of u.specs;
  kinds = kinds_of known u;
  arrays = arrays;
  inputs = inputs_of u.specs;
  formals = formals_of u.heading.stmt;
  first = first_occurrences (occurrences (is_array arrays) u);
}

abbrev pub sheet_of : Unit → Sheet
sheet_of u = sheet_with (constants_of u.specs) (arrays_of (constants_of u.specs) u.specs) u
