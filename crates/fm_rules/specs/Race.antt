-- Where a run of a program may depend on the order of its processes' steps.
-- Source: the Fortran M report: a program without mergers and probes is deterministic. This profile: so is one whose mergers have one
-- writer each, as channels do.
use Rattle.std.specs.Prelude.{◌≡◌, ℕ, ◌≤◌, Bool, true, false, ◌&&◌, Option, Some, None, MatchOption, List, [], ◌∷◌, slice_get, Contains}
use Rattle.std.specs.FinMap.{get}
use Rattle.fm_base.specs.declared.name.Line.{Line}
use Rattle.fm_graph.specs.Graph.{Reaches}
use Rattle.fm_tree.specs.declared.program_unit.Entry.{Entry}
use Rattle.fm_tree.specs.declared.program_unit.Unit.{Unit}
use Rattle.fm_tree.specs.declared.statement.Var.{Var}
use Rattle.fm_tree.specs.declared.statement.Simple.TheVariants as simple
use Rattle.fm_tree.specs.declared.statement.Stmt.{Stmt}
use Rattle.fm_tree.specs.declared.statement.Stmt.TheVariants as stmt
use Rattle.fm_symbols.specs.declared.symbol.Symbol.{Symbol}
use Rattle.fm_symbols.specs.declared.symbol.Symbol.TheVariants as symbol
use Rattle.fm_symbols.specs.declared.context.Scope.{Scope}
use Rattle.fm_symbols.specs.declared.context.Context.{Context}
use Rattle.fm_rules.specs.Calls.{call_graph}
use Rattle.fm_rules.specs.Main.{main_of}
use Rattle.fm_rules.specs.VariableTypes.{is_bare}

-- an array, of values or of ports
abbrev pub is_array_symbol : Option Symbol → Bool
is_array_symbol None = false
is_array_symbol (Some (symbol.Constant s)) = false
is_array_symbol (Some (symbol.Variable s place)) = false
is_array_symbol (Some (symbol.Array s place x)) = true
is_array_symbol (Some (symbol.Port d place)) = false
is_array_symbol (Some (symbol.Ports d place x)) = true
is_array_symbol (Some (symbol.Function k)) = false

-- a name of an array, by what the names mean in its unit
abbrev pub names_array : Option Scope → List ℕ → Bool
names_array None name = false
names_array (Some s) name = is_array_symbol (get s.symbols name)

-- the name of an array without subscripts, of however many elements
abbrev pub is_whole_array : Option Scope → Var → Bool
is_whole_array s v = is_bare v.subscripts && names_array s v.name

-- the outports of a MERGER that may have several writers: two or more, or a whole array
abbrev pub are_several : Option Scope → List Var → Bool
are_several s [] = false
are_several s (v ∷ []) = is_whole_array s v
are_several s (v ∷ w ∷ vs) = true

-- a PROBE, or a MERGER that may have several writers, by what the names mean in its unit. What stands behind a logical IF is an
-- entry of its own
unfoldable pub is_racy : Option Scope → Stmt → Bool
is_racy s (stmt.Simple (simple.Merger inport outports)) = are_several s outports
is_racy s (stmt.Simple (simple.Probe named port empty)) = true
is_racy s other = false

-- a racy entry at a line, in a unit that the PROGRAM reaches by CALL, references and PROCESSCALL, or that is it
pub record IsRace (us : List Unit) (c : Context) (line : ℕ) : Type 0 where
  pub main : ℕ
  pub starts : main_of us ≡ Some main
  pub number : ℕ
  pub reached : Reaches (call_graph true us c) main number
  pub unit : Unit
  pub here : slice_get us number ≡ Some unit
  pub entry : Entry
  pub within : Contains unit.body entry
  pub racy : is_racy (slice_get c.scopes number) entry.stmt ≡ true
  pub at : line ≡ entry.line.0

abbrev pub IsDeterministic : List Unit → Context → Type 0
IsDeterministic us c = (line : ℕ) → ¬ IsRace us c line

pub record IsFirstRace (us : List Unit) (c : Context) (line : Line) : Type 0 where
  pub race : IsRace us c line.0
  pub least : (other : ℕ) → IsRace us c other → line.0 ≤ other

-- the least line of a race, or none where there is no race
abbrev pub IsRaceVerdict : List Unit → Context → Option Line → Type 0
IsRaceVerdict us c verdict = MatchOption verdict (IsDeterministic us c) (IsFirstRace us c)
