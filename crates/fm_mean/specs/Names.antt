-- What a program says of its units, their names and their entries.
-- Source: ANSI X3.9-1978, sections 2.4 (program units), 5 (arrays), 15 (functions and subroutines) and 18 (scope of names); the
-- Fortran M report for PROCESS and ports; this profile for what an element is that nothing was put into.
use Rattle.std.specs.Prelude.{ℕ, suc, pos, ◌==◌, cond, Option, Some, None, option_map, List, [], ◌∷◌, replicate, slice_get}
use Rattle.std.specs.FinMap.{get}
use Rattle.fm_base.specs.Channels.{Item, Words, Ports}
use Rattle.fm_tree.specs.declared.form.UnitKind.{UnitKind}
use Rattle.fm_tree.specs.declared.port_type.Kind.{Kind}
use Rattle.fm_tree.specs.declared.port_type.Kind.TheVariants as kind
use Rattle.fm_tree.specs.declared.program_unit.Entry.{Entry}
use Rattle.fm_tree.specs.declared.program_unit.Unit as tree
use Rattle.fm_rules.specs.declared.entry_links.EntryLinks.{EntryLinks}
use Rattle.fm_rules.specs.Links.{links_of}
use Rattle.fm_symbols.specs.Headings.{heading_kind, heading_name}
use Rattle.fm_symbols.specs.Context.{symbols_of, unit_numbers, context_of, symbol_place}
use Rattle.fm_symbols.specs.declared.context.Context.{Context}
use Rattle.fm_symbols.specs.declared.names.Constant.{Constant}
use Rattle.fm_symbols.specs.declared.names.Variable.{Variable}
use Rattle.fm_symbols.specs.declared.names.UnitNames.{UnitNames}
pub use Rattle.fm_rules.specs.FunctionTitles.{same_name}
use Rattle.fm_rules.specs.Main.{main_of}
use Rattle.fm_rules.specs.declared.program.Program.{Program}

-- Units.

-- a unit of a program, with its names
pub record ProgramUnit : Type 0 where
  pub tree : tree.Unit
  pub names : UnitNames

abbrev pub unit_with : Option tree.Unit → Option UnitNames → Option ProgramUnit
unit_with None n = None
unit_with (Some u) None = None
unit_with (Some u) (Some n) = Some (record { tree = u; names = n })

-- the unit of a number, from 0
abbrev pub unit_at : Program → ℕ → Option ProgramUnit
unit_at p k = unit_with (slice_get p.units.units k) (slice_get p.names.units k)

abbrev pub numbered : Program → Option ℕ → Option (ℕ × ProgramUnit)
numbered p None = None
numbered p (Some k) = option_map (λ u. (k, u)) (unit_at p k)

-- the unit of a name, with its number
abbrev pub unit_named : Program → List ℕ → Option (ℕ × ProgramUnit)
unit_named p name = numbered p (get (unit_numbers p.units.units) name)

-- what the names mean in each unit
abbrev pub context : Program → Context
context p = context_of p.units.units p.names.units

-- the number of the PROGRAM
abbrev pub main_number : Program → Option ℕ
main_number p = main_of p.units.units

abbrev pub kind_of : ProgramUnit → UnitKind
kind_of u = heading_kind u.tree.heading.stmt

-- Variables and constants.

abbrev pub variable_at : List Variable → Option ℕ → Option (ℕ × Variable)
variable_at vs None = None
variable_at vs (Some i) = option_map (λ v. (i, v)) (slice_get vs i)

-- the variable of a name in a unit, with its place among the unit's variables
abbrev pub variable_of : ProgramUnit → List ℕ → Option (ℕ × Variable)
variable_of u name = variable_at u.names.variables (symbol_place (get (symbols_of u.names) name))

abbrev pub constant_in : List ℕ → List (List ℕ × Constant) → Option Constant
constant_in name [] = None
constant_in name (c ∷ cs) = cond (same_name name c.0) (Some c.1) (constant_in name cs)

abbrev pub constant_of : ProgramUnit → List ℕ → Option Constant
constant_of u name = constant_in name u.names.constants

abbrev pub variable_if : ProgramUnit → Option (List ℕ) → Option (ℕ × Variable)
variable_if u None = None
variable_if u (Some name) = variable_of u name

-- the variable that holds the result of a FUNCTION: that of its own name
abbrev pub result_variable : ProgramUnit → Option (ℕ × Variable)
result_variable u = variable_if u (heading_name u.tree.heading.stmt)

-- the place of the formal with this number, from 1; behind the last variable where there is none
abbrev pub formal_from : ℕ → ℕ → List Variable → ℕ
formal_from i n [] = i
formal_from i n (v ∷ vs) = cond (v.formal == n) i (formal_from (suc i) n vs)

abbrev pub formal_place : ProgramUnit → ℕ → ℕ
formal_place u n = formal_from 0 n u.names.variables

-- elements that nothing was put into: 0, false or NULL
abbrev pub unset : Kind → ℕ → Item
unset kind.Integer n = Words (replicate n (pos 0))
unset kind.Logical n = Words (replicate n (pos 0))
unset (kind.In t) n = Ports (replicate n None)
unset (kind.Out t) n = Ports (replicate n None)

-- the values with which a frame begins: each variable at full length
abbrev pub all_unset : List Variable → List Item
all_unset [] = []
all_unset (v ∷ vs) = unset v.kind v.words ∷ all_unset vs

-- Entries.

-- a program point: an entry, and where it leads besides the entry behind it
pub record Point : Type 0 where
  pub entry : Entry
  pub links : EntryLinks

abbrev pub point_with : Option Entry → Option EntryLinks → Option Point
point_with None l = None
point_with (Some e) None = None
point_with (Some e) (Some l) = Some (record { entry = e; links = l })

abbrev pub point_at : ProgramUnit → ℕ → Option Point
point_at u k = point_with (slice_get u.tree.body k) (slice_get (links_of u.tree.body) k)

abbrev pub line_of : Point → ℕ
line_of e = e.entry.line.0
