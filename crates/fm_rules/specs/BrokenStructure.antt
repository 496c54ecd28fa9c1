-- The rules of structure that the statements of a source break.
-- Source: ANSI X3.9-1978, sections 2.4 and 3.5 (one main program; END is the last statement of a program unit), 18.1.1 (two
-- program units have different names) and 18.2.4 (intrinsic functions); the numbers of rules by this profile.
use Rattle.std.specs.Prelude.{ℕ, ◌+◌, ◌-◌, nat_eq, not, ◌||◌, Bool, true, false, if◌then◌else◌, is_some, Option, Some, None, List, [], ◌∷◌, ◌++◌, map, length, slice_get}
use Rattle.std.specs.FinMap.{get}
use Rattle.std.specs.List.{filter_map, flat_map}
use Rattle.fm_base.specs.declared.rule.Refusal.{Refusal}
use Rattle.fm_base.specs.declared.rule.Rule.TheVariants.{E26, E27, E28}
use Rattle.fm_base.specs.Verdict.{place, when}
use Rattle.fm_values.specs.Intrinsics.{intrinsic_named}
use Rattle.fm_tree.specs.declared.program_unit.Placed.{Placed}
use Rattle.fm_tree.specs.declared.statement.Stmt.{Stmt}
use Rattle.fm_tree.specs.declared.statement.Stmt.TheVariants as stmt
use Rattle.fm_tree.specs.Structure.{form_of, is_end}
use Rattle.fm_tree.specs.Layout.{laid_out}
use Rattle.fm_tree.specs.Units.{cut_of}
use Rattle.fm_rules.specs.BrokenUnit.{broken_in_unit}
use Rattle.fm_symbols.specs.ByName.{ByName}
use Rattle.fm_symbols.specs.Headings.{heading_name}
use Rattle.fm_rules.specs.declared.titles.Title.{Title}
use Rattle.fm_rules.specs.UnitTitles.{titles_of}

-- Not exactly one PROGRAM.

abbrev pub is_program_statement : Stmt → Bool
is_program_statement (stmt.Program name) = true
is_program_statement s = false

-- the line of a PROGRAM statement
abbrev pub program_line : Placed → Option ℕ
program_line p = if is_program_statement p.stmt then Some p.line.0 else None

-- the lines of all of them, also of those that stand out of place
abbrev pub program_lines : List Placed → List ℕ
program_lines ps = filter_map program_line ps

-- no PROGRAM statement, at line 1; or each one behind the first
abbrev pub wrong_programs : List ℕ → List Refusal
wrong_programs [] = place 1 E26 ∷ []
wrong_programs (first ∷ more) = map (λ line. place line E26) more

-- A source that doesn't end with END.

abbrev pub unended : Option Placed → List Refusal
unended None = []
unended (Some p) = when (not (is_end (form_of p.stmt))) (place p.line.0 E28)

-- at its last statement; a source without statements has no PROGRAM, and no unit that could lack END
abbrev pub missing_end : List Placed → List Refusal
missing_end ps = unended (slice_get ps (length ps - 1))

-- A unit's name that another one has.

abbrev pub is_own : (number : ℕ) → Option Title → Bool
is_own number None = false
is_own number (Some title) = nat_eq title.number number

-- an earlier unit or an intrinsic function has the name of the unit of this number
abbrev pub is_taken : ByName Title → (number : ℕ) → List ℕ → Bool
is_taken titles number name = is_some (intrinsic_named name) || not (is_own number (get titles name))

abbrev pub taken_at : ByName Title → (number line : ℕ) → Option (List ℕ) → List Refusal
taken_at titles number line None = []
taken_at titles number line (Some name) = when (is_taken titles number name) (place line E27)

-- a unit is called what its first statement says
abbrev pub wrong_title : ByName Title → (number : ℕ) → List Placed → List Refusal
wrong_title titles number [] = []
wrong_title titles number (p ∷ ps) = taken_at titles number p.line.0 (heading_name p.stmt)

-- of the units from this number on
abbrev pub wrong_titles : ByName Title → (number : ℕ) → List (List Placed) → List Refusal
wrong_titles titles number [] = []
wrong_titles titles number (u ∷ us) = wrong_title titles number u ++ wrong_titles titles (number + 1) us

-- All of them.

abbrev pub broken_in_units : List (List Placed) → List Refusal
broken_in_units us = flat_map (λ u. broken_in_unit (laid_out u)) us

-- the places at which the statements of a source break a rule of structure
abbrev pub broken_structure : List Placed → List Refusal
broken_structure statements =
    wrong_programs (program_lines statements) ++ missing_end statements
    ++ wrong_titles (titles_of (cut_of statements)) 0 (cut_of statements) ++ broken_in_units (cut_of statements)
